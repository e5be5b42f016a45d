-- What is added for an expression leads where it should.
use Rattle.std.proofs.Common.{◌≡◌, ℕ, List, [], ◌∷◌, length, Some, true, false, map, sym, subst}
use Rattle.type_model.specs.declared.basic.SemType.{SemType}
use Rattle.operations.specs.declared.operation.Constant.TheVariants as constant
use Rattle.operations.specs.declared.operation.Operation.{Operation}
use Rattle.operations.specs.declared.operation.Operation.TheVariants.{Const, Load, Store, Test}
use Rattle.typed_tree.specs.declared.expr.TypedExpr.{TypedExpr, Strict', Implied, Local as Variable, And', Or', Conditional', Elvis', Check', Trap', Function', Parens', out-TypedExpr, fold_out-TypedExpr, Row_of-TypedExpr, end_of-TypedExpr, more_of-TypedExpr, items-the_row-TypedExpr as exprs_in, items_shown-the_row-TypedExpr-0 as exprs-shown}
use Rattle.typed_tree.specs.declared.unit.Captured.{Captured}
use denote.Hole.Carrier
use Rattle.typed_tree.specs.SharedTypes.{sem_of}
use Rattle.held_operations.specs.Constructs.{operations_of}
use Rattle.eval_model.specs.Expressions.{check_ends, error_type, makes_function, narrowed_to, nil_type}
use Rattle.lower_model.specs.Making.{Making, all_do, captures_made, does, expr_made, expr_step, exprs_made, gets, in_turn, keeps, parts}
use Rattle.lowered_typing.proofs.Pieces.{tidy-all, tidy-does, tidy-gets, tidy-guards, tidy-nothing, tidy-parts, tidy-then}
use Rattle.lowered_typing.proofs.Tidy.{TidyBy, none}

abbrev Tidy : (Making → Making) → Type 0
Tidy F = TidyBy none F

-- the same function, said in two ways
pub tidy-made : (ctx : ℕ → Type 0) {F G : Making → Making} → F ≡ G → TidyBy ctx G → TidyBy ctx F
tidy-made ctx e g = subst (λ h. TidyBy ctx h) (sym e) g

captures-tidy : (cs : List Captured) → Tidy (captures_made cs)
captures-tidy [] = tidy-nothing none
captures-tidy (c ∷ cs) = tidy-then none (gets c.slot (narrowed_to c.narrowed c.ty)) (captures_made cs) (tidy-gets none c.slot (narrowed_to c.narrowed c.ty)) (captures-tidy cs)

-- a value is kept in a slot and tested, behind what gave it; then ways part
tested-tidy : (ops : List Operation) (F G H : Making → Making) → Tidy F → Tidy G → Tidy H → Tidy (λ x. parts G H (all_do ops (F x)))
tested-tidy ops F G H x y z = tidy-then none (λ x. all_do ops (F x)) (parts G H) (tidy-then none F (all_do ops) x (tidy-all none ops)) (tidy-parts none G H y z)

keeps-tidy : (slot : ℕ) (t : SemType) (ops : List Operation) → Tidy (keeps slot t ops)
keeps-tidy slot t ops = tidy-then none (gets slot (Some t)) (all_do ops) (tidy-gets none slot (Some t)) (tidy-all none ops)

mutual
  unfolding out-TypedExpr Carrier.out

  pub expr-tidy : (e : TypedExpr) → Tidy (expr_made e)
  expr-tidy (Implied value type at) = tidy-made none (fold_out-TypedExpr (Making → Making) expr_step (Implied value type at)) (tidy-does none (Const value))
  expr-tidy (Variable slot narrowed type at) = tidy-made none (fold_out-TypedExpr (Making → Making) expr_step (Variable slot narrowed type at)) (tidy-gets none slot (narrowed_to narrowed type))
  expr-tidy (And' s left t right type at) =
      tidy-made none (fold_out-TypedExpr (Making → Making) expr_step (And' s left t right type at))
      (tidy-then none (expr_made left) (parts (expr_made right) (all_do (Const (constant.Bool false) ∷ []))) (expr-tidy left)
      (tidy-parts none (expr_made right) (all_do (Const (constant.Bool false) ∷ [])) (expr-tidy right) (tidy-all none (Const (constant.Bool false) ∷ []))))
  expr-tidy (Or' s left t right type at) =
      tidy-made none (fold_out-TypedExpr (Making → Making) expr_step (Or' s left t right type at))
      (tidy-then none (expr_made left) (parts (all_do (Const (constant.Bool true) ∷ [])) (expr_made right)) (expr-tidy left)
      (tidy-parts none (all_do (Const (constant.Bool true) ∷ [])) (expr_made right) (tidy-all none (Const (constant.Bool true) ∷ [])) (expr-tidy right)))
  expr-tidy (Conditional' s condition t middle u last type at) =
      tidy-made none (fold_out-TypedExpr (Making → Making) expr_step (Conditional' s condition t middle u last type at))
      (tidy-then none (expr_made condition) (parts (expr_made middle) (expr_made last)) (expr-tidy condition) (tidy-parts none (expr_made middle) (expr_made last) (expr-tidy middle) (expr-tidy last)))
  expr-tidy (Elvis' own s left t right type at) =
      tidy-made none (fold_out-TypedExpr (Making → Making) expr_step (Elvis' own s left t right type at))
      (tested-tidy (Store own ∷ Load own ∷ Test nil_type ∷ []) (expr_made left) (expr_made right) (keeps own (sem_of type) []) (expr-tidy left) (expr-tidy right) (keeps-tidy own (sem_of type) []))
  expr-tidy (Check' panics own s operand type at) =
      tidy-made none (fold_out-TypedExpr (Making → Making) expr_step (Check' panics own s operand type at))
      (tested-tidy (Store own ∷ Load own ∷ Test error_type ∷ []) (expr_made operand) (keeps own error_type (check_ends panics ∷ [])) (keeps own (sem_of type) []) (expr-tidy operand) (keeps-tidy own error_type (check_ends panics ∷ [])) (keeps-tidy own (sem_of type) []))
  expr-tidy (Trap' s operand type at) = tidy-made none (fold_out-TypedExpr (Making → Making) expr_step (Trap' s operand type at)) (tidy-guards none (expr_made operand) (expr-tidy operand))
  expr-tidy (Function' function s value type at) =
      tidy-made none (fold_out-TypedExpr (Making → Making) expr_step (Function' function s value type at))
      (tidy-then none (captures_made function.value.captured) (does (makes_function function.value)) (captures-tidy function.value.captured) (tidy-does none (makes_function function.value)))
  expr-tidy (Parens' s inner type at) = tidy-made none (fold_out-TypedExpr (Making → Making) expr_step (Parens' s inner type at)) (expr-tidy inner)
  expr-tidy (Strict' form shape operands type at) =
      tidy-made none (fold_out-TypedExpr (Making → Making) expr_step (Strict' form shape operands type at))
      (subst (λ xs. Tidy (λ x. all_do (operations_of form (length (map expr_made xs))) (in_turn (map expr_made xs) x))) (sym (exprs-shown shape operands))
      (tidy-then none (exprs_made (exprs_in _ operands)) (all_do (operations_of form (length (map expr_made (exprs_in _ operands))))) (row-tidy operands) (tidy-all none (operations_of form (length (map expr_made (exprs_in _ operands)))))))

  row-tidy : {n : _} (row : Row_of-TypedExpr n) → Tidy (exprs_made (exprs_in _ row))
  row-tidy end_of-TypedExpr = tidy-nothing none
  row-tidy (more_of-TypedExpr e rest) = tidy-then none (expr_made e) (exprs_made (exprs_in _ rest)) (expr-tidy e) (row-tidy rest)

pub exprs-tidy : (es : List TypedExpr) → Tidy (exprs_made es)
exprs-tidy [] = tidy-nothing none
exprs-tidy (e ∷ es) = tidy-then none (expr_made e) (exprs_made es) (expr-tidy e) (exprs-tidy es)
