-- If statements, and what stands behind `else`, one part after the other: how far the first block goes, and what is left behind it.
use Rattle.std.proofs.Common.{◌≡◌, ℕ, ◌<◌, true, false, ◌&&◌, [], ◌∷◌, length, Option, None, Some, refl, sym, ap, ◌∙◌, subst, arith, inl, inr}
use Rattle.std.specs.Global.{Box}
use Rattle.std.specs.Prelude.{◌⊎◌, is_some}
use Rattle.std.proofs.lemmas.Bool.{false≢true}
use Rattle.bal_base.specs.declared.place.Place.{Place}
use Rattle.bal_base.specs.declared.token.Keyword.TheVariants.{If as IfKey, Else as ElseKey}
use Rattle.bal_base.specs.declared.token.TokenKind.TheVariants.{Keyword as KeywordKind}
use Rattle.bal_tree.specs.declared.expr.Expr.{Expr}
use Rattle.bal_tree.specs.declared.stmt.Block.{Block}
use Rattle.bal_tree.specs.declared.stmt.Clause.{Clause}
use Rattle.bal_tree.specs.declared.stmt.Else.TheOpen as layer
use Rattle.bal_tree.specs.declared.stmt.Else.{Else, Else-F, roll-Else, out-Else, roll-out-Else}
use Rattle.bal_tree.specs.declared.stmt.IfStmt.{IfStmt, IfStmt-F, roll-IfStmt, out-IfStmt, roll-out-IfStmt}
use Rattle.bal_tree.specs.declared.stmt.LocalType.TheVariants.{«Type» as TypeOf, Var}
use Rattle.bal_tree.specs.declared.stmt.Stmt.{Stmt, roll-Stmt}
use Rattle.bal_tree.specs.ExprPieces.{expr_pieces}
use Rattle.bal_tree.specs.ExprRules.{expr_is_formed}
use Rattle.bal_tree.specs.Spells.{onto}
use Rattle.bal_tree.specs.StmtPieces.{block_pieces, else_pieces, if_pieces, stmt_pieces, writing}
use Rattle.bal_tree.specs.StmtRules.{block_is_formed, else_is_formed, forming, if_is_formed, stmt_is_formed}
use Rattle.parse_types.specs.Loops.{◌>>=◌}
use Rattle.token_steps.specs.Tokens.{Kinds, take_key}
use Rattle.parse_types.proofs.Law.{both_pass}
use Rattle.parse_types.proofs.Onto.{onto-longer}
use Rattle.parse_stmt.specs.declared.ahead.Mark.TheVariants.{Declares}
use Rattle.parse_stmt.specs.Reaches.{inside, then_part}
use Rattle.parse_stmt.proofs.FormTree.{AStmtLayer, Fits, Form, by-layer, by_first, by_mark, final_first, first_of, fits, form, if_first, one-code, var_first}
use Rattle.parse_stmt.proofs.Known.{Known, leads}
use Rattle.parse_stmt.proofs.StmtLaw.{before-block, block-law, inside-block}
use Rattle.parse_stmt.proofs.StmtRolls.{parts_of_if_stmt, parts_of_stmt, rolled-else, rolled-if_stmt, rolled-stmt}

-- an if statement and behind its first block `else`, and these behind that word
pub record ThenElse (n : ℕ) (xs ks : Kinds) : Type 0 where
  pub behind : Kinds
  pub end : then_part (inside n) xs ≡ Some (KeywordKind ElseKey ∷ behind)
  pub tree : Else
  pub formed : else_is_formed tree ≡ true
  pub is : behind ≡ onto (else_pieces tree) ks

-- a block; an if statement without `else`; or one with it
abbrev pub Apart : ℕ → Kinds → Kinds → Type 0
Apart n xs ks = ((take_key IfKey xs ≡ None) × (inside n false xs ≡ Some ks)) ⊎ ((then_part (inside n) xs ≡ Some ks) ⊎ ThenElse n xs ks)

-- these are the tokens of an if statement
pub record AsIf (xs ks : Kinds) : Type 0 where
  pub tree : IfStmt
  pub formed : if_is_formed tree ≡ true
  pub is : xs ≡ onto (if_pieces tree) ks

if-first : (xs : Kinds) → is_some (take_key IfKey xs) ≡ true → (first_of xs ≡ if_first) × (leads xs ≡ false)
if-first [] h = cc h
if-first (KeywordKind IfKey ∷ xs) h = (refl, refl)
if-first (KeywordKind k ∷ xs) h = cc h
if-first (k ∷ xs) h = cc h

if-form : (a : Form) (xs ks : Kinds) → Fits a xs ks → is_some (take_key IfKey xs) ≡ true → a ≡ by_first if_first
if-form (by_first f) xs ks p h = ap by_first (sym p ∙ (if-first xs h).0)
if-form (by_mark m) xs ks p h = absurd (false≢true (sym (if-first xs h).1 ∙ p.0))

module _ (known : Known) where
  abbrev pub an_if : Box Expr → Block → Option (Box Else) → Place → IfStmt-F Else Stmt Block Clause IfStmt
  an_if condition then otherwise at = record { condition = condition; then = then; otherwise = otherwise; at = at }

  then-law : (condition : Box Expr) (then : Block) (n : ℕ) (zs : Kinds) → expr_is_formed condition.value false ≡ true → block_is_formed then ≡ true → length (onto (block_pieces then) zs) < n → then_part (inside n) (KeywordKind IfKey ∷ onto (expr_pieces condition.value) (onto (block_pieces then) zs)) ≡ Some zs
  then-law condition then n zs f g fits =
      let at = block-law known then g in
      ap (λ o. o >>= inside n false) (before-block known condition.value (block_pieces then) zs f at) ∙ inside-block (block_pieces then) at n zs fits

  if-apart : (condition : Box Expr) (then : Block) (otherwise : Option (Box Else)) (at : Place) (n : ℕ) (ks : Kinds) → forming.if_stmt (parts_of_if_stmt forming (an_if condition then otherwise at)) ≡ true → length (onto (writing.if_stmt (parts_of_if_stmt writing (an_if condition then otherwise at))) ks) < n → Apart n (onto (writing.if_stmt (parts_of_if_stmt writing (an_if condition then otherwise at))) ks) ks
  if-apart condition then None at n ks f fits =
      let b = both_pass (expr_is_formed condition.value false) (block_is_formed then && true) f in
      let c = both_pass (block_is_formed then) true b.1 in
      let l = onto-longer (expr_pieces condition.value) (onto (block_pieces then) ks) in
      inr (inl (then-law condition then n ks b.0 c.0 (omega arith)))
  if-apart condition then (Some e) at n ks f fits =
      let b = both_pass (expr_is_formed condition.value false) (block_is_formed then && (else_is_formed e.value && true)) f in
      let c = both_pass (block_is_formed then) (else_is_formed e.value && true) b.1 in
      let zs = KeywordKind ElseKey ∷ onto (else_pieces e.value) ks in
      let l = onto-longer (expr_pieces condition.value) (onto (block_pieces then) zs) in
      inr (inr record {
        behind = onto (else_pieces e.value) ks;
        end = then-law condition then n zs b.0 c.0 (omega arith);
        tree = e.value;
        formed = (both_pass (else_is_formed e.value) true c.1).0;
        is = refl;
      })

  abbrev IfIsApart : IfStmt → Type 0
  IfIsApart s = (n : ℕ) (ks : Kinds) → if_is_formed s ≡ true → length (onto (if_pieces s) ks) < n → Apart n (onto (if_pieces s) ks) ks

  if-stmt-apart : (s : IfStmt) → IfIsApart s
  if-stmt-apart s = subst IfIsApart (roll-out-IfStmt s) (at (out-IfStmt s))
    where
      at : (y : IfStmt-F Else Stmt Block Clause IfStmt) → IfIsApart (roll-IfStmt y)
      at y n ks f fits =
          subst (λ p. length (onto p ks) < n → Apart n (onto p ks) ks) (sym (rolled-if_stmt writing y))
          (if-apart y.condition y.then y.otherwise y.at n ks (sym (rolled-if_stmt forming y) ∙ f)) fits

  abbrev IsApart : Else → Type 0
  IsApart e = (n : ℕ) (ks : Kinds) → else_is_formed e ≡ true → length (onto (else_pieces e) ks) < n → Apart n (onto (else_pieces e) ks) ks

  pub else-apart : (e : Else) → IsApart e
  else-apart e = subst IsApart (roll-out-Else e) (at (out-Else e))
    where
      at : (x : Else-F Else Stmt Block Clause IfStmt) → IsApart (roll-Else x)
      at (layer.«Else::If» s) n ks f fits =
          subst (λ p. length (onto p ks) < n → Apart n (onto p ks) ks) (sym (rolled-else writing (layer.«Else::If» s)))
          (if-stmt-apart s n ks (both_pass (if_is_formed s) true (sym (rolled-else forming (layer.«Else::If» s)) ∙ f)).0) fits
      at (layer.«Else::Block» b) n ks f fits =
          subst (λ p. length (onto p ks) < n → Apart n (onto p ks) ks) (sym (rolled-else writing (layer.«Else::Block» b)))
          (λ small.
          let inner = block-law known b (both_pass (block_is_formed b) true (sym (rolled-else forming (layer.«Else::Block» b)) ∙ f)).0 in
          let o = inner.opens ks in
          inl (ap (take_key IfKey) o.1.0, inside-block (block_pieces b) inner n ks small)) fits

  -- ---- a statement that begins with `if` is an if statement

  abbrev IsAsIf : Stmt → Type 0
  IsAsIf s = (ks : Kinds) → stmt_is_formed s ≡ true → is_some (take_key IfKey (onto (stmt_pieces s) ks)) ≡ true → AsIf (onto (stmt_pieces s) ks) ks

  pub as-if : (s : Stmt) → IsAsIf s
  as-if = by-layer known IsAsIf
      (λ x. subst (λ p. (ks : Kinds) → stmt_is_formed (roll-Stmt x) ≡ true → is_some (take_key IfKey (onto p ks)) ≡ true → AsIf (onto p ks) ks) (sym (rolled-stmt writing x))
      (λ ks f h. let formed = sym (rolled-stmt forming x) ∙ f in by x ks formed (if-form (form x) (onto (writing.stmt (parts_of_stmt writing x)) ks) ks (fits known x ks formed) h)))
    where
      by : (x : AStmtLayer) (ks : Kinds) → forming.stmt (parts_of_stmt forming x) ≡ true → form x ≡ by_first if_first → AsIf (onto (writing.stmt (parts_of_stmt writing x)) ks) ks
      by (layer.«Stmt::If» s) ks f e = record { tree = s; formed = (both_pass (if_is_formed s) true f).0; is = refl }
      by (layer.Local true t name value at) ks f e = absurd (false≢true (one-code (by_first final_first) (by_first if_first) e))
      by (layer.Local false (TypeOf t) name value at) ks f e = absurd (false≢true (one-code (by_mark Declares) (by_first if_first) e))
      by (layer.Local false (Var place) name value at) ks f e = absurd (false≢true (one-code (by_first var_first) (by_first if_first) e))
      by x ks f e = absurd (false≢true (one-code (form x) (by_first if_first) e))
