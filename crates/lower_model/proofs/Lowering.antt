-- What each expression adds to the code that is being made stands for it.
use Rattle.std.proofs.Common.{◌≡◌, ℕ, List, [], ◌∷◌, length, Option, Some, None, sym, subst, true, false, map}
use Rattle.std.proofs.lemmas.List.{length-map}
use Rattle.type_model.specs.declared.basic.SemType.{SemType}
use Rattle.operations.specs.declared.operation.Constant.TheVariants as constant
use Rattle.operations.specs.declared.operation.Operation.{Operation}
use Rattle.operations.specs.declared.operation.Operation.TheVariants.{Const, Load, Store, Test, Cast}
use Rattle.typed_tree.specs.declared.expr.TypedExpr.{TypedExpr, Strict', Implied, Local as Variable, And', Or', Conditional', Elvis', Check', Trap', Function', Parens', out-TypedExpr, fold_out-TypedExpr, Row_of-TypedExpr, end_of-TypedExpr, more_of-TypedExpr, items-the_row-TypedExpr as exprs_in, items_shown-the_row-TypedExpr-0 as exprs-shown}
use Rattle.typed_tree.specs.declared.form.StrictForm.{StrictForm}
use Rattle.typed_tree.specs.declared.unit.Captured.{Captured}
use denote.Hole.Carrier
use Rattle.typed_tree.specs.SharedTypes.{sem_of}
use Rattle.held_operations.specs.Constructs.{operations_of}
use Rattle.eval_model.specs.Expressions.{check_ends, error_type, makes_function, narrowed_to, nil_type}
use Rattle.eval_model.specs.Walk.{CapturesOver, KeptOver, OpsOver, RowOver}
use Rattle.lower_model.specs.Lowered.{Gets, code_ways}
use Rattle.lower_model.specs.Laying.{ExprPiece, Laid, Lays, Piece}
use Rattle.lower_model.specs.Making.{Making, all_do, captures_made, does, expr_made, expr_step, exprs_made, gets, in_turn, keeps, parts}
use Rattle.lower_model.proofs.Laying.{Then, as-laid, does-laid, guards-laid, nothing-laid, ops-laid, parts-laid, then-laid}

pub gets-laid : (slot : ℕ) (narrowed : Option SemType) → Laid (gets slot narrowed) (λ code places landings. Gets code slot narrowed)
gets-laid slot None = does-laid (Load slot)
gets-laid slot (Some t) = then-laid (does (Load slot)) (does (Cast t)) (does-laid (Load slot)) (does-laid (Cast t))

keeps-laid : (slot : ℕ) (t : SemType) (ops : List Operation) → Laid (keeps slot t ops) (λ code places landings. KeptOver (code_ways code) slot t ops)
keeps-laid slot t ops = then-laid (gets slot (Some t)) (all_do ops) (gets-laid slot (Some t)) (ops-laid ops)

captures-laid : (cs : List Captured) → Laid (captures_made cs) (λ code places landings. CapturesOver (code_ways code) cs)
captures-laid [] = nothing-laid
captures-laid (c ∷ cs) = then-laid (gets c.slot (narrowed_to c.narrowed c.ty)) (captures_made cs) (gets-laid c.slot (narrowed_to c.narrowed c.ty)) (captures-laid cs)

-- the same function, said in two ways
pub made : {P : Piece} {F G : Making → Making} → F ≡ G → Laid G P → Laid F P
made {P} e g m = subst (λ f. Lays P m (f m)) (sym e) (g m)

-- ---- expressions

abbrev falses : List Operation
falses = Const (constant.Bool false) ∷ []

abbrev trues : List Operation
trues = Const (constant.Bool true) ∷ []

-- a value is kept in a slot, and tested
abbrev tests : ℕ → SemType → List Operation
tests own t = Store own ∷ Load own ∷ Test t ∷ []

abbrev Strictly : StrictForm → List TypedExpr → Piece → Piece
Strictly form es P = Then P (λ code places landings. OpsOver (code_ways code) (operations_of form (length es)))

strict-laid : {P : Piece} (form : StrictForm) (es : List TypedExpr) → Laid (exprs_made es) P → Laid (λ m. all_do (operations_of form (length (map expr_made es))) (in_turn (map expr_made es) m)) (Strictly form es P)
strict-laid {P} form es h =
    subst (λ n. Laid (λ m. all_do (operations_of form n) (in_turn (map expr_made es) m)) (Strictly form es P)) (sym (length-map es expr_made))
    (then-laid (exprs_made es) (all_do (operations_of form (length es))) h (ops-laid (operations_of form (length es))))

mutual
  unfolding out-TypedExpr Carrier.out

  pub expr-laid : (e : TypedExpr) → Laid (expr_made e) (ExprPiece e)
  expr-laid (Implied value type at) = made (fold_out-TypedExpr (Making → Making) expr_step (Implied value type at)) (does-laid (Const value))
  expr-laid (Variable slot narrowed type at) = made (fold_out-TypedExpr (Making → Making) expr_step (Variable slot narrowed type at)) (gets-laid slot (narrowed_to narrowed type))
  expr-laid (And' s left t right type at) =
      made (fold_out-TypedExpr (Making → Making) expr_step (And' s left t right type at)) (then-laid (expr_made left) (parts (expr_made right) (all_do falses)) (expr-laid left) (parts-laid (expr_made right) (all_do falses) (expr-laid right) (ops-laid falses)))
  expr-laid (Or' s left t right type at) =
      made (fold_out-TypedExpr (Making → Making) expr_step (Or' s left t right type at)) (then-laid (expr_made left) (parts (all_do trues) (expr_made right)) (expr-laid left) (parts-laid (all_do trues) (expr_made right) (ops-laid trues) (expr-laid right)))
  expr-laid (Conditional' s condition t middle u last type at) =
      made (fold_out-TypedExpr (Making → Making) expr_step (Conditional' s condition t middle u last type at)) (then-laid (expr_made condition) (parts (expr_made middle) (expr_made last)) (expr-laid condition) (parts-laid (expr_made middle) (expr_made last) (expr-laid middle) (expr-laid last)))
  expr-laid (Elvis' own s left t right type at) =
      made (fold_out-TypedExpr (Making → Making) expr_step (Elvis' own s left t right type at))
      (as-laid _ (λ code places landings p q (m, a, (n, ops, fork)). (m, n, a, ops, fork))
      (then-laid (expr_made left) (λ m. parts (expr_made right) (keeps own (sem_of type) []) (all_do (tests own nil_type) m)) (expr-laid left)
      (then-laid (all_do (tests own nil_type)) (parts (expr_made right) (keeps own (sem_of type) [])) (ops-laid (tests own nil_type))
      (parts-laid (expr_made right) (keeps own (sem_of type) []) (expr-laid right) (keeps-laid own (sem_of type) [])))))
  expr-laid (Check' panics own s operand type at) =
      made (fold_out-TypedExpr (Making → Making) expr_step (Check' panics own s operand type at))
      (as-laid _ (λ code places landings p q (m, a, (n, ops, fork)). (m, n, a, ops, fork))
      (then-laid (expr_made operand) (λ m. parts (keeps own error_type (check_ends panics ∷ [])) (keeps own (sem_of type) []) (all_do (tests own error_type) m)) (expr-laid operand)
      (then-laid (all_do (tests own error_type)) (parts (keeps own error_type (check_ends panics ∷ [])) (keeps own (sem_of type) [])) (ops-laid (tests own error_type))
      (parts-laid (keeps own error_type (check_ends panics ∷ [])) (keeps own (sem_of type) []) (keeps-laid own error_type (check_ends panics ∷ [])) (keeps-laid own (sem_of type) [])))))
  expr-laid (Trap' s operand type at) =
      made (fold_out-TypedExpr (Making → Making) expr_step (Trap' s operand type at))
      (as-laid _ (λ code places landings p q (a, b, guard, (inner, x)). (a, b, guard, x)) (guards-laid (expr_made operand) (expr-laid operand)))
  expr-laid (Function' function s value type at) =
      made (fold_out-TypedExpr (Making → Making) expr_step (Function' function s value type at))
      (then-laid (captures_made function.value.captured) (does (makes_function function.value)) (captures-laid function.value.captured) (does-laid (makes_function function.value)))
  expr-laid (Parens' s inner type at) = made (fold_out-TypedExpr (Making → Making) expr_step (Parens' s inner type at)) (expr-laid inner)
  expr-laid (Strict' form shape operands type at) =
      made (fold_out-TypedExpr (Making → Making) expr_step (Strict' form shape operands type at))
      (subst (λ es. Laid (λ m. all_do (operations_of form (length (map expr_made es))) (in_turn (map expr_made es) m)) (ExprPiece (Strict' form shape operands type at))) (sym (exprs-shown shape operands))
      (strict-laid form (exprs_in _ operands) (row-laid operands)))

  row-laid : {n : _} (row : Row_of-TypedExpr n) → Laid (exprs_made (exprs_in _ row)) (λ code places landings. RowOver (code_ways code) row)
  row-laid end_of-TypedExpr = nothing-laid
  row-laid (more_of-TypedExpr e rest) = then-laid (expr_made e) (exprs_made (exprs_in _ rest)) (expr-laid e) (row-laid rest)
