-- The law at statements that begin with a type or an expression: the reader ends behind their semicolon.
use Rattle.std.proofs.Common.{rules, ◌≡◌, ℕ, Bool, true, false, List, [], ◌∷◌, length, Option, None, Some, refl, sym, ap, ◌∙◌, subst, eq-eqb, ◌&&◌}
use Rattle.std.specs.Prelude.{◌==◌, if◌then◌else◌}
use Rattle.std.proofs.lemmas.Bool.{false≢true}
use Rattle.std.proofs.lemmas.Option.{option_and_then_some}
use Rattle.bal_base.specs.declared.token.TokenKind.TheVariants.{Word as WordKind, Keyword as KeywordKind, Sign as SignKind}
use Rattle.bal_base.specs.declared.token.Keyword.TheVariants.{Var as VarKey, Check as CheckKey, CheckPanic as CheckPanicKey, Trap as TrapKey}
use Rattle.bal_base.specs.declared.token.Sign.{Sign}
use Rattle.bal_base.specs.declared.token.Sign.TheVariants.{Semicolon, Equal, OpenBracket, CloseBracket, Dot}
use Rattle.bal_tree.specs.declared.name.QualifiedName.{QualifiedName}
use Rattle.bal_tree.specs.declared.name.Word.{Word}
use Rattle.bal_tree.specs.declared.name.Prefix.{Prefix}
use Rattle.bal_tree.specs.declared.name.Prefix.TheVariants.{Word as WordPrefix, Int as IntPrefix}
use Rattle.bal_tree.specs.declared.action.Action.{Action}
use Rattle.bal_tree.specs.declared.action.Rhs.{Rhs}
use Rattle.bal_tree.specs.declared.action.Rhs.TheVariants.{Expr as ExprRhs, Action as ActionRhs}
use Rattle.bal_tree.specs.declared.action.Sending.{Sending}
use Rattle.bal_tree.specs.declared.action.Sending.TheVariants.{Nothing as NoSending, Async, Sync}
use Rattle.bal_tree.specs.declared.expr.Call.{Call}
use Rattle.bal_tree.specs.declared.expr.Call.TheOpen as layer
use Rattle.bal_tree.specs.declared.expr.Detail.{Detail}
use Rattle.bal_tree.specs.declared.expr.Expr.{Expr, Expr-F, roll-Expr, out-Expr, roll-out-Expr}
use Rattle.bal_tree.specs.declared.expr.Expr.TheVariants.{Postfix as PostfixExpr}
use Rattle.bal_tree.specs.declared.expr.Key.{Key}
use Rattle.bal_tree.specs.declared.expr.Member.{Member}
use Rattle.bal_tree.specs.declared.expr.Postfix.{Postfix, Postfix-F, roll-Postfix, out-Postfix, roll-out-Postfix}
use Rattle.bal_tree.specs.declared.expr.Postfix.TheVariants.{Primary as PrimaryPostfix, Index as IndexPostfix, Field as FieldPostfix}
use Rattle.bal_tree.specs.declared.expr.Primary.{Primary}
use Rattle.bal_tree.specs.declared.expr.Primary.TheVariants.{Name as NamePrimary}
use Rattle.bal_tree.specs.declared.expr.PrefixOp.{PrefixOp}
use Rattle.bal_tree.specs.declared.expr.PrefixOp.TheVariants.{Negate, Not, Check, CheckPanic}
use Rattle.bal_tree.specs.declared.stmt.AssignOp.{AssignOp}
use Rattle.bal_tree.specs.declared.stmt.AssignOp.TheVariants.{Set, Add, Subtract, Multiply, Divide}
use Rattle.bal_tree.specs.declared.stmt.LocalType.{LocalType}
use Rattle.bal_tree.specs.declared.stmt.LocalType.TheVariants.{«Type» as TypeOf, Var}
use Rattle.bal_tree.specs.declared.stmt.Target.{Target}
use Rattle.bal_tree.specs.declared.stmt.Target.TheVariants.{Name as NameTarget, Index as IndexTarget, Field as FieldTarget}
use Rattle.bal_tree.specs.declared.types.TypeTree.{TypeTree}
use Rattle.bal_tree.specs.ActionPieces.{action_pieces, rhs_pieces}
use Rattle.bal_tree.specs.ActionRules.{action_is_formed, rhs_is_formed, sending}
use Rattle.bal_tree.specs.ExprPieces.{writing, expr_pieces, postfix_pieces, prefix_op}
use Rattle.bal_tree.specs.ExprLayers.{of_call}
use Rattle.bal_tree.specs.Levels.{is_no_looser}
use Rattle.bal_tree.specs.declared.level.Level.TheVariants.{Prefix as PrefixLevel}
use Rattle.bal_tree.specs.ExprRules.{ExprFacts, facts, expr_facts, postfix_facts, expr_is_formed, postfix_is_formed, is_check}
use Rattle.bal_tree.specs.NamePieces.{name_pieces, prefix_pieces, word_pieces}
use Rattle.bal_tree.specs.Pieces.{Pieces, ◌&◌, sign, if_there}
use Rattle.bal_tree.specs.Spells.{onto}
use Rattle.bal_tree.specs.StmtPieces.{assign_sign, ended as ended_pieces, local_pieces, local_type_pieces, target_pieces}
use Rattle.bal_tree.specs.TypePieces.{type_pieces}
use Rattle.bal_tree.specs.TypeRules.{type_is_formed}
use Rattle.bal_tree.specs.StmtRules.{local_type_is_formed, stands_alone, target_is_formed}
use Rattle.bal_tree.proofs.ExprLayers.{expr_layers}
use Rattle.parse_types.specs.Loops.{◌>>=◌, or_else}
use Rattle.token_steps.specs.Tokens.{Kinds, take_sign, take_key, take_word}
use Rattle.parse_types.proofs.Follows.{Closes}
use Rattle.parse_types.proofs.Law.{both_pass}
use Rattle.parse_types.proofs.PrimaryLaw.{word-closes}
use Rattle.parse_expr.specs.Reaches.{expr, type_at}
use Rattle.parse_expr.proofs.ExprRolls.{parts_of_expr, rolled-expr, rolled-postfix}
use Rattle.parse_stmt.specs.declared.ahead.Mark.{Mark}
use Rattle.parse_stmt.specs.declared.ahead.Mark.TheVariants.{Declares, Assigns, Sends, SendsSync, Nothing}
use Rattle.parse_stmt.specs.Ahead.{semicolon, first_mark}
use Rattle.parse_stmt.specs.Reaches.{alone_or, assign, assign_op, begins_simple, behind_word, call, call_alone, ended, is_call, is_target, led, led_by, local, local_type, rhs_alone, rhs_stmt, target, up_to}
use Rattle.parse_stmt.specs.Shapes.{Last, lasts, last_of, postfix_last, last_read, arguments_last, name_alone, index_last, field_last}
use Rattle.parse_stmt.proofs.ActionLaw.{action-mark, action-semicolon, ended-law, mark_by, rhs-law, rhs-semicolon, send-law, simple-begins, simple-law, sync-law}
use Rattle.parse_stmt.proofs.Known.{Known, begins_word, ends_expr, leads}
use Rattle.parse_stmt.proofs.Passing.{Passes}

-- ---- up to the semicolon

pub led-is : (xs ks : Kinds) → semicolon 0 xs ≡ Some ks → led_by (first_mark true 0 xs) xs ≡ Some ks → led xs ≡ Some ks
unfolding led
led-is xs ks e h =
    ap (λ o. o >>= λ end. led_by (first_mark true 0 xs) xs >>= up_to end) e ∙ ap (λ o. o >>= up_to ks) h
    ∙ ap (λ b. if b then Some ks else None) (eq-eqb (length ks) (length ks) refl)

end-same : (c : Bool) (end b : Kinds) → (if c then Some end else None) ≡ Some b → end ≡ b
end-same true end b e = cc e
end-same false end b e = cc e

pub led-end : (xs b : Kinds) → led xs ≡ Some b → semicolon 0 xs ≡ Some b
unfolding led
led-end xs b h =
    option_and_then_some (λ end. led_by (first_mark true 0 xs) xs >>= up_to end) (semicolon 0 xs) b h
    (λ end p q. option_and_then_some (up_to end) (led_by (first_mark true 0 xs) xs) b q (λ r u v. p ∙ ap Some (end-same (length r == length end) end b v)))

-- ---- calls

is-call-last : (p : Postfix) → (postfix_facts p).is_call ≡ true → postfix_last p ≡ arguments_last
is-call-last p h = subst (λ q. (postfix_facts q).is_call ≡ true → postfix_last q ≡ arguments_last) (roll-out-Postfix p) (rolled (out-Postfix p)) h
  where
    by_layer : (x : Postfix-F Call Expr Key Postfix Primary Detail Member) → (of_layer : (postfix_facts (roll-Postfix x)).is_call ≡ true) → postfix_last (roll-Postfix x) ≡ arguments_last
    by_layer (layer.Primary e) h = absurd (false≢true (sym (ap (λ (f : ExprFacts). f.is_call) (rolled-postfix facts (layer.Primary e))) ∙ h))
    by_layer (layer.Call e) h = rolled-postfix lasts (layer.Call e) ∙ call-is e
      where
        call-is : (c : Call) → of_call lasts c ≡ arguments_last
        call-is c = search (rules, expr_layers)
    by_layer (layer.Field base field at) h = absurd (false≢true (sym (ap (λ (f : ExprFacts). f.is_call) (rolled-postfix facts (layer.Field base field at))) ∙ h))
    by_layer (layer.OptionalField base field at) h = absurd (false≢true (sym (ap (λ (f : ExprFacts). f.is_call) (rolled-postfix facts (layer.OptionalField base field at))) ∙ h))
    by_layer (layer.Index base index at) h = absurd (false≢true (sym (ap (λ (f : ExprFacts). f.is_call) (rolled-postfix facts (layer.Index base index at))) ∙ h))

    rolled : (x : Postfix-F Call Expr Key Postfix Primary Detail Member) → (postfix_facts (roll-Postfix x)).is_call ≡ true → postfix_last (roll-Postfix x) ≡ arguments_last
    rolled x h = by_layer x h

is-call-expr : (e : Expr) → (expr_facts e).is_call ≡ true → last_of e ≡ arguments_last
is-call-expr e h = subst (λ q. (expr_facts q).is_call ≡ true → last_of q ≡ arguments_last) (roll-out-Expr e) (by_layer (out-Expr e)) h
  where
    is_call_of : (x : Expr-F Call Expr Key Postfix Primary Detail Member) → (expr_facts (roll-Expr x)).is_call ≡ (facts.expr (parts_of_expr facts x)).is_call
    is_call_of x = ap (λ (f : ExprFacts). f.is_call) (rolled-expr facts x)

    by_layer : (x : Expr-F Call Expr Key Postfix Primary Detail Member) → (expr_facts (roll-Expr x)).is_call ≡ true → last_of (roll-Expr x) ≡ arguments_last
    by_layer (layer.Postfix p) h = rolled-expr lasts (layer.Postfix p) ∙ is-call-last p (sym (is_call_of (layer.Postfix p)) ∙ h)
    by_layer (layer.Prefix op operand at) h = absurd (false≢true (sym (is_call_of (layer.Prefix op operand at)) ∙ h))
    by_layer (layer.Cast t operand at) h = absurd (false≢true (sym (is_call_of (layer.Cast t operand at)) ∙ h))
    by_layer (layer.Binary left op right at) h = absurd (false≢true (sym (is_call_of (layer.Binary left op right at)) ∙ h))
    by_layer (layer.TypeTest operand t at) h = absurd (false≢true (sym (is_call_of (layer.TypeTest operand t at)) ∙ h))
    by_layer (layer.Conditional condition middle last at) h = absurd (false≢true (sym (is_call_of (layer.Conditional condition middle last at)) ∙ h))
    by_layer (layer.Trap operand at) h = absurd (false≢true (sym (is_call_of (layer.Trap operand at)) ∙ h))
    by_layer (layer.«Expr::Function» isolated params result value at) h = absurd (false≢true (sym (is_call_of (layer.«Expr::Function» isolated params result value at)) ∙ h))

-- a word that may stand before a call is passed over, and nothing else
no-word-before : (xs : Kinds) → begins_word xs ≡ false → behind_word xs ≡ xs
no-word-before [] h = refl
no-word-before (KeywordKind CheckKey ∷ xs) h = cc h
no-word-before (KeywordKind CheckPanicKey ∷ xs) h = cc h
no-word-before (KeywordKind TrapKey ∷ xs) h = cc h
no-word-before (KeywordKind k ∷ xs) h = refl
no-word-before (k ∷ xs) h = refl

-- ---- what is assigned to, as an expression

pub record AsExpr (t : Target) : Type 0 where
  pub e : Expr
  pub written : expr_pieces e ≡ target_pieces t
  pub pieces : (ks : Kinds) → onto (expr_pieces e) ks ≡ onto (target_pieces t) ks
  pub is : is_target (last_of e) ≡ true
  pub formed : target_is_formed t ≡ true → expr_is_formed e false ≡ true

pub as-expr : (t : Target) → AsExpr t
as-expr (NameTarget n) = record {
  e = PostfixExpr (PrimaryPostfix (NamePrimary n));
  written = pieces n;
  pieces = λ ks. ap (λ p. onto p ks) (pieces n);
  is = ap is_target (last n);
  formed = λ h. formed n;
}
  where
    pieces : (n : QualifiedName) → expr_pieces (PostfixExpr (PrimaryPostfix (NamePrimary n))) ≡ name_pieces n
    pieces n = search (rules, expr_layers)

    last : (n : QualifiedName) → last_of (PostfixExpr (PrimaryPostfix (NamePrimary n))) ≡ name_alone
    last n = search (rules, expr_layers)

    formed : (n : QualifiedName) → expr_is_formed (PostfixExpr (PrimaryPostfix (NamePrimary n))) false ≡ true
    formed n = search (rules, expr_layers)
as-expr (IndexTarget base index at) = record {
  e = PostfixExpr (IndexPostfix base index at);
  written = pieces;
  pieces = λ ks. ap (λ p. onto p ks) pieces;
  is = ap is_target last;
  formed = λ h. let b = both_pass (postfix_is_formed base.value false) (expr_is_formed index.value false) h in formed ∙ ap (λ b. (b && (expr_is_formed index.value false && true)) && true) b.0 ∙ ap (λ b. (b && true) && true) b.1;
}
  where
    pieces : expr_pieces (PostfixExpr (IndexPostfix base index at)) ≡ target_pieces (IndexTarget base index at)
    pieces = search (rules, expr_layers)

    last : last_of (PostfixExpr (IndexPostfix base index at)) ≡ index_last
    last = search (rules, expr_layers)

    formed : expr_is_formed (PostfixExpr (IndexPostfix base index at)) false ≡ ((postfix_is_formed base.value false && (expr_is_formed index.value false && true)) && true)
    formed = search (rules, expr_layers)
as-expr (FieldTarget base field at) = record {
  e = PostfixExpr (FieldPostfix base field at);
  written = pieces;
  pieces = λ ks. ap (λ p. onto p ks) pieces;
  is = ap is_target last;
  formed = λ h. formed ∙ ap (λ b. (b && true) && true) h;
}
  where
    pieces : expr_pieces (PostfixExpr (FieldPostfix base field at)) ≡ target_pieces (FieldTarget base field at)
    pieces = search (rules, expr_layers)

    last : last_of (PostfixExpr (FieldPostfix base field at)) ≡ field_last
    last = search (rules, expr_layers)

    formed : expr_is_formed (PostfixExpr (FieldPostfix base field at)) false ≡ ((postfix_is_formed base.value false && true) && true)
    formed = search (rules, expr_layers)

-- ---- signs of assignments

pub assign-ends : (op : AssignOp) → ends_expr (assign_sign op) ≡ true
assign-ends Set = refl
assign-ends Add = refl
assign-ends Subtract = refl
assign-ends Multiply = refl
assign-ends Divide = refl

assign-op : (op : AssignOp) (ks : Kinds) → assign_op (SignKind (assign_sign op) ∷ ks) ≡ Some ks
assign-op Set ks = refl
assign-op Add ks = refl
assign-op Subtract ks = refl
assign-op Multiply ks = refl
assign-op Divide ks = refl

assign-semicolon : (op : AssignOp) (ks : Kinds) → semicolon 0 (SignKind (assign_sign op) ∷ ks) ≡ semicolon 0 ks
assign-semicolon Set ks = refl
assign-semicolon Add ks = refl
assign-semicolon Subtract ks = refl
assign-semicolon Multiply ks = refl
assign-semicolon Divide ks = refl

-- ---- a type is no `var`

no-var : (xs : Kinds) → leads xs ≡ true → take_key VarKey xs ≡ None
no-var [] h = refl
no-var (KeywordKind VarKey ∷ xs) h = cc h
no-var (KeywordKind k ∷ xs) h = refl
no-var (k ∷ xs) h = refl

module _ (known : Known) where
  -- ---- local variables

  pub local_type-law : (t : LocalType) (w : Word) (ks : Kinds) → local_type_is_formed t ≡ true → local_type (onto (local_type_pieces t & word_pieces w) ks) ≡ Some (onto (word_pieces w) ks)
  local_type-law (TypeOf t) w ks f =
      let xs = onto (type_pieces t.value) (onto (word_pieces w) ks) in
      ap (λ o. or_else o (type_at false xs)) (no-var xs (known.type_leads t.value (onto (word_pieces w) ks)))
      ∙ known.type_before t.value (onto (word_pieces w) ks) f (word-closes w.name ks)
  local_type-law (Var at) w ks f = refl

  pub local-law : (t : LocalType) (w : Word) (value : Rhs) (ks : Kinds) → local_type_is_formed t ≡ true → rhs_is_formed value ≡ true → local (onto (local_pieces t w value) ks) ≡ Some ks
  local-law t w value ks f g =
      ap (λ o. o >>= take_word >>= take_sign Equal >>= ended) (local_type-law t w (SignKind Equal ∷ onto (ended_pieces value) ks) f) ∙ ended-law known value ks g

  pub local-mark : (t : TypeTree) (w : Word) (ks : Kinds) → first_mark true 0 (onto (type_pieces t) (onto (word_pieces w) (SignKind Equal ∷ ks))) ≡ Declares
  local-mark t w ks = (known.type_passes t).mark true 0 (onto (word_pieces w) (SignKind Equal ∷ ks)) refl

  pub declared-law : (t : TypeTree) (w : Word) (value : Rhs) (ks : Kinds) → type_is_formed t false ≡ true → rhs_is_formed value ≡ true → led (onto (type_pieces t & word_pieces w & sign Equal & ended_pieces value) ks) ≡ Some ks
  declared-law t w value ks f g =
      let zs = onto (ended_pieces value) ks in
      let xs = onto (type_pieces t) (onto (word_pieces w) (SignKind Equal ∷ zs)) in
      led-is xs ks ((known.type_passes t).semicolon 0 (onto (word_pieces w) (SignKind Equal ∷ zs)) ∙ rhs-semicolon known value ks g)
      (ap (λ m. led_by m xs) (local-mark t w zs)
      ∙ ap (λ o. o >>= take_word >>= take_sign Equal >>= ended) (ap (λ o. or_else o (type_at false xs)) (no-var xs (known.type_leads t (onto (word_pieces w) (SignKind Equal ∷ zs)))) ∙ known.type_before t (onto (word_pieces w) (SignKind Equal ∷ zs)) f (word-closes w.name (SignKind Equal ∷ zs)))
      ∙ ended-law known value ks g)

  -- ---- assignments

  target-law : (t : Target) (op : AssignOp) (ks : Kinds) → target_is_formed t ≡ true → target (onto (target_pieces t) (SignKind (assign_sign op) ∷ ks)) ≡ Some (SignKind (assign_sign op) ∷ ks)
  target-law t op ks f =
      let a = as-expr t in
      let zs = SignKind (assign_sign op) ∷ ks in
      subst (λ xs. target xs ≡ Some zs) (a.pieces zs)
      (ap (λ o. o >>= λ r. if is_target (last_read (onto (expr_pieces a.e) zs) r) then Some r else None) (known.expr_before a.e (assign_sign op) ks (a.formed f) (assign-ends op))
      ∙ ap (λ l. if is_target l then Some zs else None) (known.last_law a.e zs) ∙ ap (λ b. if b then Some zs else None) a.is)

  target-semicolon : (t : Target) (ks : Kinds) → semicolon 0 (onto (target_pieces t) ks) ≡ semicolon 0 ks
  target-semicolon t ks = let a = as-expr t in ap (semicolon 0) (sym (a.pieces ks)) ∙ (known.expr_passes a.e).semicolon 0 ks

  postfix-passes : (p : Postfix) → Passes (postfix_pieces p)
  postfix-passes p = subst Passes (pieces p) (known.expr_passes (PostfixExpr p))
    where
      pieces : (p : Postfix) → expr_pieces (PostfixExpr p) ≡ postfix_pieces p
      pieces p = search (rules, expr_layers)

  set-mark-name : (prefix : Option Prefix) (w : Word) (ks : Kinds) → first_mark true 0 (onto (if_there prefix_pieces prefix & word_pieces w) (SignKind Equal ∷ ks)) ≡ Assigns
  set-mark-name None w ks = refl
  set-mark-name (Some (WordPrefix p)) w ks = refl
  set-mark-name (Some (IntPrefix at)) w ks = refl

  set-mark : (t : Target) (ks : Kinds) → first_mark true 0 (onto (target_pieces t) (SignKind Equal ∷ ks)) ≡ Assigns
  set-mark (NameTarget n) ks = set-mark-name n.prefix n.word ks
  set-mark (IndexTarget base index at) ks =
      (postfix-passes base.value).mark true 0 (SignKind OpenBracket ∷ onto (expr_pieces index.value) (SignKind CloseBracket ∷ SignKind Equal ∷ ks)) refl
      ∙ (known.expr_passes index.value).mark false 1 (SignKind CloseBracket ∷ SignKind Equal ∷ ks) refl
  set-mark (FieldTarget base field at) ks = (postfix-passes base.value).mark true 0 (SignKind Dot ∷ onto (word_pieces field) (SignKind Equal ∷ ks)) refl

  other-mark : (t : Target) (zs : Kinds) → take_sign Equal zs ≡ None → first_mark true 0 (onto (target_pieces t) zs) ≡ first_mark false 0 zs
  other-mark t zs h = let a = as-expr t in ap (first_mark true 0) (sym (a.pieces zs)) ∙ (known.expr_passes a.e).mark true 0 zs h

  pub assign-mark : (t : Target) (op : AssignOp) (ks : Kinds) → first_mark true 0 (onto (target_pieces t) (SignKind (assign_sign op) ∷ ks)) ≡ Assigns
  assign-mark t Set ks = set-mark t ks
  assign-mark t Add ks = other-mark t (SignKind (assign_sign Add) ∷ ks) refl
  assign-mark t Subtract ks = other-mark t (SignKind (assign_sign Subtract) ∷ ks) refl
  assign-mark t Multiply ks = other-mark t (SignKind (assign_sign Multiply) ∷ ks) refl
  assign-mark t Divide ks = other-mark t (SignKind (assign_sign Divide) ∷ ks) refl

  pub assign-law : (t : Target) (op : AssignOp) (value : Rhs) (ks : Kinds) → target_is_formed t ≡ true → rhs_is_formed value ≡ true → led (onto (target_pieces t & sign (assign_sign op) & ended_pieces value) ks) ≡ Some ks
  assign-law t op value ks f g =
      let zs = onto (ended_pieces value) ks in
      let xs = onto (target_pieces t) (SignKind (assign_sign op) ∷ zs) in
      led-is xs ks (target-semicolon t (SignKind (assign_sign op) ∷ zs) ∙ assign-semicolon op zs ∙ rhs-semicolon known value ks g)
      (ap (λ m. led_by m xs) (assign-mark t op zs) ∙ ap (λ o. o >>= assign_op >>= ended) (target-law t op zs f) ∙ ap (λ o. o >>= ended) (assign-op op zs) ∙ ended-law known value ks g)

  -- ---- expressions and actions of their own

  call-expr-law : (e : Expr) (ks : Kinds) → expr_is_formed e false ≡ true → (expr_facts e).is_call ≡ true → call (onto (expr_pieces e) (SignKind Semicolon ∷ ks)) ≡ Some (SignKind Semicolon ∷ ks)
  call-expr-law e ks f h =
      let zs = SignKind Semicolon ∷ ks in
      ap (λ o. o >>= λ a. if is_call (last_read (onto (expr_pieces e) zs) a) then Some a else None) (known.expr_before e Semicolon ks f refl)
      ∙ ap (λ l. if is_call l then Some zs else None) (known.last_law e zs ∙ is-call-expr e h)

  alone-expr-law : (e : Expr) (ks : Kinds) → expr_is_formed e false ≡ true → (expr_facts e).stands_alone ≡ true → call_alone (onto (expr_pieces e) (SignKind Semicolon ∷ ks)) ≡ Some (SignKind Semicolon ∷ ks)
  alone-expr-law e ks = subst (λ q. expr_is_formed q false ≡ true → (expr_facts q).stands_alone ≡ true → call_alone (onto (expr_pieces q) zs) ≡ Some zs) (roll-out-Expr e) (by_layer (out-Expr e))
    where
      zs : Kinds
      zs = SignKind Semicolon ∷ ks

      at_layer : (x : Expr-F Call Expr Key Postfix Primary Detail Member) → expr_facts (roll-Expr x) ≡ facts.expr (parts_of_expr facts x)
      at_layer x = rolled-expr facts x

      written : (x : Expr-F Call Expr Key Postfix Primary Detail Member) → onto (writing.expr (parts_of_expr writing x)) zs ≡ onto (expr_pieces (roll-Expr x)) zs
      written x = ap (λ p. onto p zs) (sym (rolled-expr writing x))

      never : (x : Expr-F Call Expr Key Postfix Primary Detail Member) → (facts.expr (parts_of_expr facts x)).stands_alone ≡ false → (expr_facts (roll-Expr x)).stands_alone ≡ true → call_alone (onto (expr_pieces (roll-Expr x)) zs) ≡ Some zs
      never x differs h = absurd (false≢true (sym differs ∙ sym (ap (λ (f : ExprFacts). f.stands_alone) (at_layer x)) ∙ h))

      behind_op : (op : PrefixOp) (operand : Expr) → is_check op ≡ true → expr_is_formed operand false ≡ true → (expr_facts operand).is_call ≡ true → call_alone (onto (prefix_op op & expr_pieces operand) zs) ≡ Some zs
      behind_op Negate operand c f h = cc c
      behind_op Not operand c f h = cc c
      behind_op Check operand c f h = call-expr-law operand ks f h
      behind_op CheckPanic operand c f h = call-expr-law operand ks f h

      by_layer : (x : Expr-F Call Expr Key Postfix Primary Detail Member) → expr_is_formed (roll-Expr x) false ≡ true → (expr_facts (roll-Expr x)).stands_alone ≡ true → call_alone (onto (expr_pieces (roll-Expr x)) zs) ≡ Some zs
      by_layer (layer.Postfix p) f h =
          let e = roll-Expr (layer.Postfix p) in
          let one : (expr_facts e).is_call ≡ true = ap (λ (f : ExprFacts). f.is_call) (at_layer (layer.Postfix p)) ∙ sym (ap (λ (f : ExprFacts). f.stands_alone) (at_layer (layer.Postfix p))) ∙ h in
          let plain : begins_word (onto (expr_pieces e) zs) ≡ false = ap begins_word (sym (written (layer.Postfix p))) ∙ known.no_word p zs in
          ap call (no-word-before (onto (expr_pieces e) zs) plain) ∙ call-expr-law e ks f one
      by_layer (layer.Prefix op operand at) f h =
          let formed = both_pass (is_no_looser (expr_facts operand.value).level PrefixLevel) (expr_is_formed operand.value false && true) (sym (ap (λ (f : ExprFacts). f.is_formed false) (at_layer (layer.Prefix op operand at))) ∙ f) in
          let alone = both_pass (is_check op) (expr_facts operand.value).is_call (sym (ap (λ (f : ExprFacts). f.stands_alone) (at_layer (layer.Prefix op operand at))) ∙ h) in
          ap call_alone (sym (written (layer.Prefix op operand at))) ∙ behind_op op operand.value alone.0 (both_pass (expr_is_formed operand.value false) true formed.1).0 alone.1
      by_layer (layer.Cast t operand at) f h = never (layer.Cast t operand at) refl h
      by_layer (layer.Binary left op right at) f h = never (layer.Binary left op right at) refl h
      by_layer (layer.TypeTest operand t at) f h = never (layer.TypeTest operand t at) refl h
      by_layer (layer.Conditional condition middle last at) f h = never (layer.Conditional condition middle last at) refl h
      by_layer (layer.Trap operand at) f h =
          let formed = sym (ap (λ (f : ExprFacts). f.is_formed false) (at_layer (layer.Trap operand at))) ∙ f in
          let alone = sym (ap (λ (f : ExprFacts). f.stands_alone) (at_layer (layer.Trap operand at))) ∙ h in
          ap call_alone (sym (written (layer.Trap operand at))) ∙ call-expr-law operand.value ks (both_pass (expr_is_formed operand.value false) true formed).0 alone
      by_layer (layer.«Expr::Function» isolated params result value at) f h = never (layer.«Expr::Function» isolated params result value at) refl h

  action-alone : (a : Action) (ks : Kinds) (s : Sending) → sending a ≡ s → action_is_formed a ≡ true → led_by (mark_by s) (onto (action_pieces a) (SignKind Semicolon ∷ ks)) ≡ Some ks
  action-alone a ks NoSending n f =
      let xs = onto (action_pieces a) (SignKind Semicolon ∷ ks) in
      ap (λ b. alone_or b xs >>= take_sign Semicolon) (simple-begins known a (SignKind Semicolon ∷ ks) n) ∙ ap (λ o. o >>= take_sign Semicolon) (simple-law known a ks f n)
  action-alone a ks Async n f = ap (λ o. o >>= take_sign Semicolon) (send-law known a ks f n)
  action-alone a ks Sync n f = ap (λ o. o >>= take_sign Semicolon) (sync-law known a ks f n)

  pub alone-law : (r : Rhs) (ks : Kinds) → stands_alone r ≡ true → rhs_is_formed r ≡ true → led (onto (ended_pieces r) ks) ≡ Some ks
  alone-law (ExprRhs e) ks h f =
      let zs = SignKind Semicolon ∷ ks in
      let xs = onto (expr_pieces e.value) zs in
      led-is xs ks ((known.expr_passes e.value).semicolon 0 zs)
      (ap (λ m. led_by m xs) ((known.expr_passes e.value).mark true 0 zs refl)
      ∙ ap (λ b. alone_or b xs >>= take_sign Semicolon) (known.no_action e.value zs)
      ∙ ap (λ o. o >>= take_sign Semicolon) (alone-expr-law e.value ks f h))
  alone-law (ActionRhs a) ks h f =
      let xs = onto (action_pieces a.value) (SignKind Semicolon ∷ ks) in
      led-is xs ks (action-semicolon known a.value ks f) (ap (λ m. led_by m xs) (action-mark known a.value true ks f) ∙ action-alone a.value ks (sending a.value) refl f)
