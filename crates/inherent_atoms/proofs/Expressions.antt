-- What each expression adds to the code that is being made names what the expression names.
use Rattle.std.proofs.Common.{◌∙◌, ℕ, List, [], ◌∷◌, length, refl, sym, subst, true, false, map}
use Rattle.std.proofs.lemmas.List.{length-map}
use Rattle.operations.specs.declared.operation.Constant.TheVariants as constant
use Rattle.operations.specs.declared.operation.Operation.{Operation}
use Rattle.operations.specs.declared.operation.Operation.TheVariants.{Const, Load, Store, Test}
use Rattle.operations.specs.Uses.{Use}
use Rattle.type_model.specs.declared.basic.SemType.{SemType}
use Rattle.typed_tree.specs.declared.expr.TypedExpr.{TypedExpr, Strict', Implied, Local as Variable, And', Or', Conditional', Elvis', Check', Trap', Function', Parens', out-TypedExpr, fold_out-TypedExpr, Row_of-TypedExpr, end_of-TypedExpr, more_of-TypedExpr, items-the_row-TypedExpr as exprs_in, items_shown-the_row-TypedExpr-0 as exprs-shown}
use Rattle.typed_tree.specs.declared.form.StrictForm.{StrictForm}
use denote.Hole.Carrier
use Rattle.typed_tree.specs.Listed.{Listed, ◌&◌, joined}
use Rattle.typed_tree.specs.SharedTypes.{sem_of}
use Rattle.typed_tree.specs.Units.{UnitTree}
use Rattle.held_operations.specs.Constructs.{operations_of}
use Rattle.eval_model.specs.Expressions.{check_ends, error_type, makes_function, narrowed_to, nil_type}
use Rattle.eval_model.specs.Inherent.{expr_uses}
use Rattle.lower_model.specs.Making.{Making, all_do, captures_made, does, expr_made, expr_step, exprs_made, in_turn, keeps, parts}
use Rattle.inherent_atoms.proofs.Adding.{Adds, both, captures-add, does-adds, gets-adds, guards-adds, keeps-add, nothing-adds, ops-add, ops_uses, parts-add, then-adds}

abbrev falses : List Operation
falses = Const (constant.Bool false) ∷ []

abbrev trues : List Operation
trues = Const (constant.Bool true) ∷ []

-- a value is kept in a slot, and tested
abbrev tests : ℕ → SemType → List Operation
tests own t = Store own ∷ Load own ∷ Test t ∷ []

module _ (us : List UnitTree) where
  abbrev Using : List TypedExpr → Type 0
  Using es = Adds us (exprs_made es) (joined (map expr_uses es))

  strict-adds : (form : StrictForm) (es : List TypedExpr) → Using es
      → Adds us (λ m. all_do (operations_of form (length (map expr_made es))) (in_turn (map expr_made es) m)) (joined (map expr_uses es) & ops_uses us (operations_of form (length (map expr_uses es))))
  strict-adds form es h =
      subst (λ n. Adds us (λ m. all_do (operations_of form n) (in_turn (map expr_made es) m)) (joined (map expr_uses es) & ops_uses us (operations_of form (length (map expr_uses es))))) (length-map es expr_uses ∙ sym (length-map es expr_made))
      (then-adds us (exprs_made es) (all_do (operations_of form (length (map expr_uses es)))) h (ops-add us (operations_of form (length (map expr_uses es)))))

  mutual
    unfolding out-TypedExpr Carrier.out

    pub expr-adds : (e : TypedExpr) → Adds us (expr_made e) (expr_uses e)
    expr-adds (Implied value type at) =
        both us (fold_out-TypedExpr (Making → Making) expr_step (Implied value type at)) (fold_out-TypedExpr (Listed Use) _ (Implied value type at)) (does-adds us (Const value)) (λ k. refl)
    expr-adds (Variable slot narrowed type at) =
        both us (fold_out-TypedExpr (Making → Making) expr_step (Variable slot narrowed type at)) (fold_out-TypedExpr (Listed Use) _ (Variable slot narrowed type at)) (gets-adds us slot (narrowed_to narrowed type)) (λ k. refl)
    expr-adds (And' s left t right type at) =
        both us (fold_out-TypedExpr (Making → Making) expr_step (And' s left t right type at)) (fold_out-TypedExpr (Listed Use) _ (And' s left t right type at))
        (then-adds us (expr_made left) (parts (expr_made right) (all_do falses)) (expr-adds left) (parts-add us (expr_made right) (all_do falses) (expr-adds right) (ops-add us falses))) (λ k. refl)
    expr-adds (Or' s left t right type at) =
        both us (fold_out-TypedExpr (Making → Making) expr_step (Or' s left t right type at)) (fold_out-TypedExpr (Listed Use) _ (Or' s left t right type at))
        (then-adds us (expr_made left) (parts (all_do trues) (expr_made right)) (expr-adds left) (parts-add us (all_do trues) (expr_made right) (ops-add us trues) (expr-adds right))) (λ k. refl)
    expr-adds (Conditional' s condition t middle u last type at) =
        both us (fold_out-TypedExpr (Making → Making) expr_step (Conditional' s condition t middle u last type at)) (fold_out-TypedExpr (Listed Use) _ (Conditional' s condition t middle u last type at))
        (then-adds us (expr_made condition) (parts (expr_made middle) (expr_made last)) (expr-adds condition) (parts-add us (expr_made middle) (expr_made last) (expr-adds middle) (expr-adds last))) (λ k. refl)
    expr-adds (Elvis' own s left t right type at) =
        both us (fold_out-TypedExpr (Making → Making) expr_step (Elvis' own s left t right type at)) (fold_out-TypedExpr (Listed Use) _ (Elvis' own s left t right type at))
        (then-adds us (expr_made left) (λ m. parts (expr_made right) (keeps own (sem_of type) []) (all_do (tests own nil_type) m)) (expr-adds left)
        (then-adds us (all_do (tests own nil_type)) (parts (expr_made right) (keeps own (sem_of type) [])) (ops-add us (tests own nil_type))
        (parts-add us (expr_made right) (keeps own (sem_of type) []) (expr-adds right) (keeps-add us own (sem_of type) [])))) (λ k. refl)
    expr-adds (Check' true own s operand type at) =
        both us (fold_out-TypedExpr (Making → Making) expr_step (Check' true own s operand type at)) (fold_out-TypedExpr (Listed Use) _ (Check' true own s operand type at))
        (then-adds us (expr_made operand) (λ m. parts (keeps own error_type (check_ends true ∷ [])) (keeps own (sem_of type) []) (all_do (tests own error_type) m)) (expr-adds operand)
        (then-adds us (all_do (tests own error_type)) (parts (keeps own error_type (check_ends true ∷ [])) (keeps own (sem_of type) [])) (ops-add us (tests own error_type))
        (parts-add us (keeps own error_type (check_ends true ∷ [])) (keeps own (sem_of type) []) (keeps-add us own error_type (check_ends true ∷ [])) (keeps-add us own (sem_of type) [])))) (λ k. refl)
    expr-adds (Check' false own s operand type at) =
        both us (fold_out-TypedExpr (Making → Making) expr_step (Check' false own s operand type at)) (fold_out-TypedExpr (Listed Use) _ (Check' false own s operand type at))
        (then-adds us (expr_made operand) (λ m. parts (keeps own error_type (check_ends false ∷ [])) (keeps own (sem_of type) []) (all_do (tests own error_type) m)) (expr-adds operand)
        (then-adds us (all_do (tests own error_type)) (parts (keeps own error_type (check_ends false ∷ [])) (keeps own (sem_of type) [])) (ops-add us (tests own error_type))
        (parts-add us (keeps own error_type (check_ends false ∷ [])) (keeps own (sem_of type) []) (keeps-add us own error_type (check_ends false ∷ [])) (keeps-add us own (sem_of type) [])))) (λ k. refl)
    expr-adds (Trap' s operand type at) =
        both us (fold_out-TypedExpr (Making → Making) expr_step (Trap' s operand type at)) (fold_out-TypedExpr (Listed Use) _ (Trap' s operand type at)) (guards-adds us (expr_made operand) (expr-adds operand)) (λ k. refl)
    expr-adds (Function' function s value type at) =
        both us (fold_out-TypedExpr (Making → Making) expr_step (Function' function s value type at)) (fold_out-TypedExpr (Listed Use) _ (Function' function s value type at))
        (then-adds us (captures_made function.value.captured) (does (makes_function function.value)) (captures-add us function.value.captured) (does-adds us (makes_function function.value))) (λ k. refl)
    expr-adds (Parens' s inner type at) =
        both us (fold_out-TypedExpr (Making → Making) expr_step (Parens' s inner type at)) (fold_out-TypedExpr (Listed Use) _ (Parens' s inner type at)) (expr-adds inner) (λ k. refl)
    expr-adds (Strict' form shape operands type at) =
        both us (fold_out-TypedExpr (Making → Making) expr_step (Strict' form shape operands type at)) (fold_out-TypedExpr (Listed Use) _ (Strict' form shape operands type at))
        (subst (λ es. Adds us (λ m. all_do (operations_of form (length (map expr_made es))) (in_turn (map expr_made es) m)) (joined (map expr_uses es) & ops_uses us (operations_of form (length (map expr_uses es))))) (sym (exprs-shown shape operands))
        (strict-adds form (exprs_in _ operands) (row-adds operands))) (λ k. refl)

    row-adds : {n : _} (row : Row_of-TypedExpr n) → Using (exprs_in _ row)
    row-adds end_of-TypedExpr = nothing-adds us
    row-adds (more_of-TypedExpr e rest) = then-adds us (expr_made e) (exprs_made (exprs_in _ rest)) (expr-adds e) (row-adds rest)
