-- The form of a statement is told by its tokens, but that an empty block may begin like a mapping.
use Rattle.std.proofs.Common.{◌≡◌, ℕ, Bool, true, false, ◌&&◌, [], ◌∷◌, None, Some, refl, sym, ap, ◌∙◌, subst, eq-eqb, inl, inr}
use Rattle.std.specs.Prelude.{◌⊎◌, ◌==◌}
use Rattle.std.proofs.lemmas.Bool.{false≢true}
use Rattle.bal_base.specs.declared.token.TokenKind.TheVariants.{Keyword as KeywordKind, Sign as SignKind}
use Rattle.bal_base.specs.declared.token.Keyword.TheVariants.{If as IfKey, While as WhileKey, Foreach as ForeachKey, Match as MatchKey, Return as ReturnKey, Panic as PanicKey, Break as BreakKey, Continue as ContinueKey, Final as FinalKey, Var as VarKey, Is as IsKey, Worker as WorkerKey}
use Rattle.bal_base.specs.declared.token.Sign.TheVariants.{OpenBrace, CloseBrace, Underscore, Semicolon}
use Rattle.bal_tree.specs.declared.action.Rhs.{Rhs}
use Rattle.bal_tree.specs.declared.action.Rhs.TheVariants.{Expr as ExprRhs, Action as ActionRhs}
use Rattle.bal_tree.specs.declared.action.Sending.{Sending}
use Rattle.bal_tree.specs.declared.action.Sending.TheVariants.{Nothing as NoSending, Async, Sync}
use Rattle.bal_tree.specs.declared.stmt.LocalType.TheVariants.{«Type» as TypeOf, Var}
use Rattle.bal_tree.specs.declared.stmt.Else.TheOpen as layer
use Rattle.bal_tree.specs.declared.stmt.Else.{Else}
use Rattle.bal_tree.specs.declared.stmt.Stmt.{Stmt, Stmt-F, roll-Stmt, out-Stmt, roll-out-Stmt}
use Rattle.bal_tree.specs.declared.stmt.Block.{Block}
use Rattle.bal_tree.specs.declared.stmt.Clause.{Clause}
use Rattle.bal_tree.specs.declared.stmt.IfStmt.{IfStmt}
use Rattle.bal_tree.specs.ActionRules.{rhs_is_formed, sending}
use Rattle.bal_tree.specs.Spells.{onto}
use Rattle.bal_tree.specs.StmtPieces.{ended as ended_pieces, stmt_pieces, writing}
use Rattle.bal_tree.specs.StmtRules.{block_is_formed, forming, if_is_formed, local_type_is_formed, stands_alone, stmt_is_formed, target_is_formed}
use Rattle.token_steps.specs.Tokens.{Kinds}
use Rattle.parse_types.proofs.Law.{both_pass}
use Rattle.parse_stmt.specs.declared.ahead.Mark.{Mark}
use Rattle.parse_stmt.specs.declared.ahead.Mark.TheVariants.{Declares, Assigns, Sends, SendsSync, Nothing}
use Rattle.parse_stmt.specs.Ahead.{first_mark}
use Rattle.parse_stmt.specs.Reaches.{goes_on, led}
use Rattle.parse_stmt.specs.Starts.{ends_stmts}
use Rattle.parse_stmt.proofs.ActionLaw.{action-mark, mark_by}
use Rattle.parse_stmt.proofs.Going.{led-closes}
use Rattle.parse_stmt.proofs.Known.{Known, leads}
use Rattle.parse_stmt.proofs.LedLaw.{alone-law, assign-law, assign-mark, declared-law, local-mark}
use Rattle.parse_stmt.proofs.PlainLaw.{rhs-leads, target-leads}
use Rattle.parse_stmt.proofs.StmtLaw.{block-law, if-law}
use Rattle.parse_stmt.proofs.StmtRolls.{parts_of_stmt, rolled-stmt}

-- the first token of a statement
pub data First : Type 0 where
  final_first : First
  var_first : First
  underscore_first : First
  if_first : First
  while_first : First
  foreach_first : First
  match_first : First
  return_first : First
  panic_first : First
  break_first : First
  continue_first : First
  brace_first : First
  other_first : First

abbrev pub first_of : Kinds → First
first_of [] = other_first
first_of (KeywordKind FinalKey ∷ ks) = final_first
first_of (KeywordKind VarKey ∷ ks) = var_first
first_of (KeywordKind IfKey ∷ ks) = if_first
first_of (KeywordKind WhileKey ∷ ks) = while_first
first_of (KeywordKind ForeachKey ∷ ks) = foreach_first
first_of (KeywordKind MatchKey ∷ ks) = match_first
first_of (KeywordKind ReturnKey ∷ ks) = return_first
first_of (KeywordKind PanicKey ∷ ks) = panic_first
first_of (KeywordKind BreakKey ∷ ks) = break_first
first_of (KeywordKind ContinueKey ∷ ks) = continue_first
first_of (SignKind Underscore ∷ ks) = underscore_first
first_of (SignKind OpenBrace ∷ ks) = brace_first
first_of (k ∷ ks) = other_first

-- the first mark, where a send is as good as none
abbrev pub group : Mark → Mark
group Declares = Declares
group Assigns = Assigns
group Sends = Nothing
group SendsSync = Nothing
group Nothing = Nothing

-- what tells the form of a statement: its first token, or, where it begins with a type, an expression or an action,
-- the first mark
pub data Form : Type 0 where
  by_first : First → Form
  by_mark : Mark → Form

abbrev pub is_led : Form → Bool
is_led (by_first f) = false
is_led (by_mark m) = true

abbrev pub is_other : Form → Bool
is_other (by_first other_first) = true
is_other (by_first f) = false
is_other (by_mark m) = false

-- a number for each form
abbrev code_first : First → ℕ
code_first final_first = 0
code_first var_first = 1
code_first underscore_first = 2
code_first if_first = 3
code_first while_first = 4
code_first foreach_first = 5
code_first match_first = 6
code_first return_first = 7
code_first panic_first = 8
code_first break_first = 9
code_first continue_first = 10
code_first brace_first = 11
code_first other_first = 12

abbrev pub code : Form → ℕ
code (by_first f) = code_first f
code (by_mark Declares) = 13
code (by_mark Assigns) = 14
code (by_mark Sends) = 15
code (by_mark SendsSync) = 16
code (by_mark Nothing) = 17

pub one-code : (a b : Form) → a ≡ b → (code a == code b) ≡ true
one-code a b e = subst (λ c. (code a == code c) ≡ true) e (eq-eqb (code a) (code a) refl)

-- the tokens, with these behind them, are of the form
abbrev pub Fits : Form → Kinds → Kinds → Type 0
Fits (by_first f) xs ks = first_of xs ≡ f
Fits (by_mark m) xs ks = (leads xs ≡ true) × (group (first_mark true 0 xs) ≡ m) × (led xs ≡ Some ks)

abbrev pub AStmtLayer : Type 0
AStmtLayer = Stmt-F Else Stmt Block Clause IfStmt

abbrev pub form : AStmtLayer → Form
form (layer.Local true t name value at) = by_first final_first
form (layer.Local false (TypeOf t) name value at) = by_mark Declares
form (layer.Local false (Var place) name value at) = by_first var_first
form (layer.Assign target op value at) = by_mark Assigns
form (layer.Ignore value at) = by_first underscore_first
form (layer.Rhs value at) = by_mark Nothing
form (layer.«Stmt::If» s) = by_first if_first
form (layer.While condition body at) = by_first while_first
form (layer.Foreach t name from range body at) = by_first foreach_first
form (layer.Match value clauses at) = by_first match_first
form (layer.Return value at) = by_first return_first
form (layer.Panic value at) = by_first panic_first
form (layer.Break at) = by_first break_first
form (layer.Continue at) = by_first continue_first
form (layer.«Stmt::Block» b) = by_first brace_first

pub form-known : (x : AStmtLayer) → is_other (form x) ≡ false
form-known (layer.Local true t name value at) = refl
form-known (layer.Local false (TypeOf t) name value at) = refl
form-known (layer.Local false (Var place) name value at) = refl
form-known (layer.Assign target op value at) = refl
form-known (layer.Ignore value at) = refl
form-known (layer.Rhs value at) = refl
form-known (layer.«Stmt::If» s) = refl
form-known (layer.While condition body at) = refl
form-known (layer.Foreach t name from range body at) = refl
form-known (layer.Match value clauses at) = refl
form-known (layer.Return value at) = refl
form-known (layer.Panic value at) = refl
form-known (layer.Break at) = refl
form-known (layer.Continue at) = refl
form-known (layer.«Stmt::Block» b) = refl

-- ---- first tokens

pub leads-first : (xs : Kinds) → leads xs ≡ true → (first_of xs ≡ other_first) ⊎ (first_of xs ≡ brace_first)
leads-first [] h = inl refl
leads-first (SignKind OpenBrace ∷ xs) h = inr refl
leads-first (SignKind Underscore ∷ xs) h = cc h
leads-first (SignKind s ∷ xs) h = inl refl
leads-first (KeywordKind FinalKey ∷ xs) h = cc h
leads-first (KeywordKind VarKey ∷ xs) h = cc h
leads-first (KeywordKind IfKey ∷ xs) h = cc h
leads-first (KeywordKind WhileKey ∷ xs) h = cc h
leads-first (KeywordKind ForeachKey ∷ xs) h = cc h
leads-first (KeywordKind MatchKey ∷ xs) h = cc h
leads-first (KeywordKind ReturnKey ∷ xs) h = cc h
leads-first (KeywordKind PanicKey ∷ xs) h = cc h
leads-first (KeywordKind BreakKey ∷ xs) h = cc h
leads-first (KeywordKind ContinueKey ∷ xs) h = cc h
leads-first (KeywordKind k ∷ xs) h = inl refl
leads-first (k ∷ xs) h = inl refl

pub goes-first : (xs : Kinds) → goes_on xs ≡ true → first_of xs ≡ other_first
goes-first [] h = refl
goes-first (KeywordKind IsKey ∷ xs) h = refl
goes-first (KeywordKind k ∷ xs) h = cc h
goes-first (SignKind OpenBrace ∷ xs) h = cc h
goes-first (SignKind CloseBrace ∷ xs) h = cc h
goes-first (SignKind Underscore ∷ xs) h = cc h
goes-first (SignKind s ∷ xs) h = refl
goes-first (k ∷ xs) h = cc h

pub ends-first : (xs : Kinds) → ends_stmts xs ≡ true → first_of xs ≡ other_first
ends-first [] h = refl
ends-first (SignKind CloseBrace ∷ xs) h = refl
ends-first (KeywordKind WorkerKey ∷ xs) h = refl
ends-first (k ∷ xs) h = cc h

led-nothing : led [] ≡ None
unfolding led
led-nothing = refl

-- where statements end none begins that leads
pub ends-led : (xs ks : Kinds) → ends_stmts xs ≡ true → leads xs ≡ true → led xs ≡ Some ks → ⊥
ends-led [] ks h l e = cc l
ends-led (SignKind CloseBrace ∷ xs) ks h l e = let bad : None ≡ Some ks = sym (led-closes xs) ∙ e in cc bad
ends-led (KeywordKind WorkerKey ∷ xs) ks h l e = cc l
ends-led (k ∷ xs) ks h l e = cc h

-- ---- two forms of the same tokens

abbrev pub is_brace : Form → Bool
is_brace (by_first brace_first) = true
is_brace (by_first f) = false
is_brace (by_mark m) = false

-- they are one, or the one is a block and the other begins with a mapping
abbrev pub OneForm : Form → Form → Type 0
OneForm a b = (a ≡ b) ⊎ (((is_brace a ≡ true) × (is_led b ≡ true)) ⊎ ((is_led a ≡ true) × (is_brace b ≡ true)))

-- a first token that is that of a statement which leads
brace-of : (f : First) (xs : Kinds) → leads xs ≡ true → first_of xs ≡ f → is_other (by_first f) ≡ false → is_brace (by_first f) ≡ true
brace-of f xs l e known =
    elim (leads-first xs l) [
      | inl other ↦ absurd (false≢true (sym known ∙ ap (λ g. is_other (by_first g)) (sym e ∙ other)))
      | inr brace ↦ ap (λ g. is_brace (by_first g)) (sym e ∙ brace)
    ]

pub one-form : (a b : Form) (xs ks ls : Kinds) → Fits a xs ks → Fits b xs ls → is_other a ≡ false → is_other b ≡ false → OneForm a b
one-form (by_first f) (by_first g) xs ks ls p q h k = inl (ap by_first (sym p ∙ q))
one-form (by_first f) (by_mark m) xs ks ls p q h k = inr (inl (brace-of f xs q.0 p h, refl))
one-form (by_mark m) (by_first g) xs ks ls p q h k = inr (inr (refl, brace-of g xs p.0 q k))
one-form (by_mark m) (by_mark n) xs ks ls p q h k = inl (ap by_mark (sym p.1 ∙ q.1))

group-by : (s : Sending) → group (mark_by s) ≡ Nothing
group-by NoSending = refl
group-by Async = refl
group-by Sync = refl

module _ (known : Known) where
  alone-group : (r : Rhs) (ks : Kinds) → rhs_is_formed r ≡ true → group (first_mark true 0 (onto (ended_pieces r) ks)) ≡ Nothing
  alone-group (ExprRhs e) ks f = ap group ((known.expr_passes e.value).mark true 0 (SignKind Semicolon ∷ ks) refl)
  alone-group (ActionRhs a) ks f = ap group (action-mark known a.value true ks f) ∙ group-by (sending a.value)

  -- ---- each statement fits its form

  pub fits : (x : AStmtLayer) (ks : Kinds) → forming.stmt (parts_of_stmt forming x) ≡ true → Fits (form x) (onto (writing.stmt (parts_of_stmt writing x)) ks) ks
  fits (layer.Local true t name value at) ks h = refl
  fits (layer.Local false (TypeOf t) name value at) ks h =
      let b = both_pass (local_type_is_formed (TypeOf t)) (rhs_is_formed value) (both_pass (local_type_is_formed (TypeOf t) && rhs_is_formed value) true h).0 in
      (known.type_leads t.value _, ap group (local-mark known t.value name (onto (ended_pieces value) ks)), declared-law known t.value name value ks b.0 b.1)
  fits (layer.Local false (Var place) name value at) ks h = refl
  fits (layer.Assign target op value at) ks h =
      let b = both_pass (target_is_formed target) (rhs_is_formed value) (both_pass (target_is_formed target && rhs_is_formed value) true h).0 in
      (target-leads known target op (onto (ended_pieces value) ks), ap group (assign-mark known target op (onto (ended_pieces value) ks)), assign-law known target op value ks b.0 b.1)
  fits (layer.Ignore value at) ks h = refl
  fits (layer.Rhs value at) ks h =
      let b = both_pass (stands_alone value) (rhs_is_formed value) (both_pass (stands_alone value && rhs_is_formed value) true h).0 in
      (rhs-leads known value ks, alone-group value ks b.1, alone-law known value ks b.0 b.1)
  fits (layer.«Stmt::If» s) ks h = ap first_of ((if-law known s (both_pass (if_is_formed s) true h).0).opens ks).1
  fits (layer.While condition body at) ks h = refl
  fits (layer.Foreach t name from range body at) ks h = refl
  fits (layer.Match value clauses at) ks h = refl
  fits (layer.Return value at) ks h = refl
  fits (layer.Panic value at) ks h = refl
  fits (layer.Break at) ks h = refl
  fits (layer.Continue at) ks h = refl
  fits (layer.«Stmt::Block» b) ks h = ap first_of ((block-law known b (both_pass (block_is_formed b) true h).0).opens ks).1.0

  -- ---- what follows from it, of a statement

  pub by-layer : (P : Stmt → Type 0) → ((x : AStmtLayer) → P (roll-Stmt x)) → (s : Stmt) → P s
  by-layer P h s = subst P (roll-out-Stmt s) (h (out-Stmt s))

  abbrev IsAsGoes : Stmt → Type 0
  IsAsGoes s = (ks : Kinds) → stmt_is_formed s ≡ true → goes_on (onto (stmt_pieces s) ks) ≡ true → led (onto (stmt_pieces s) ks) ≡ Some ks

  -- one that could go on with an expression before it leads
  pub led-of : (s : Stmt) → IsAsGoes s
  led-of = by-layer IsAsGoes
      (λ x. subst (λ p. (ks : Kinds) → stmt_is_formed (roll-Stmt x) ≡ true → goes_on (onto p ks) ≡ true → led (onto p ks) ≡ Some ks) (sym (rolled-stmt writing x))
      (λ ks f g. at (form x) ks (onto (writing.stmt (parts_of_stmt writing x)) ks) (fits x ks (sym (rolled-stmt forming x) ∙ f)) (form-known x) g))
    where
      at : (a : Form) (ks xs : Kinds) → Fits a xs ks → is_other a ≡ false → goes_on xs ≡ true → led xs ≡ Some ks
      at (by_first f) ks xs p h g = absurd (false≢true (sym h ∙ ap (λ t. is_other (by_first t)) (sym p ∙ goes-first xs g)))
      at (by_mark m) ks xs p h g = p.2

  abbrev IsNoEnd : Stmt → Type 0
  IsNoEnd s = (ks : Kinds) → stmt_is_formed s ≡ true → ends_stmts (onto (stmt_pieces s) ks) ≡ true → ⊥

  -- where statements end, none begins
  pub no-end : (s : Stmt) → IsNoEnd s
  no-end = by-layer IsNoEnd
      (λ x. subst (λ p. (ks : Kinds) → stmt_is_formed (roll-Stmt x) ≡ true → ends_stmts (onto p ks) ≡ true → ⊥) (sym (rolled-stmt writing x))
      (λ ks f g. at (form x) ks (onto (writing.stmt (parts_of_stmt writing x)) ks) (fits x ks (sym (rolled-stmt forming x) ∙ f)) (form-known x) g))
    where
      at : (a : Form) (ks xs : Kinds) → Fits a xs ks → is_other a ≡ false → ends_stmts xs ≡ true → ⊥
      at (by_first f) ks xs p h g = false≢true (sym h ∙ ap (λ t. is_other (by_first t)) (sym p ∙ ends-first xs g))
      at (by_mark m) ks xs p h g = ends-led xs ks g p.0 p.2
