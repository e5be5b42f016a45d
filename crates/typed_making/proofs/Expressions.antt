-- What is added for a well-typed expression has a map, whose points are those of the way through the expression.
use Rattle.std.proofs.Common.{◌≡◌, ℕ, List, [], ◌∷◌, length, Option, true, false, map, sym, subst}
use Rattle.std.proofs.lemmas.List.{length-map}
use Rattle.type_model.specs.declared.atoms.AtomDef.{AtomDef}
use Rattle.type_model.specs.declared.basic.SemType.{SemType}
use Rattle.operations.specs.declared.operation.Constant.TheVariants as constant
use Rattle.operations.specs.declared.operation.Operation.{Operation}
use Rattle.operations.specs.declared.operation.Operation.TheVariants.{Const, Load, Store, Test}
use Rattle.operations.specs.Rows.{Surroundings}
use Rattle.typed_tree.specs.declared.expr.TypedExpr.{TypedExpr, Strict', Implied, Local as Variable, And', Or', Conditional', Elvis', Check', Trap', Function', Parens', out-TypedExpr, fold_out-TypedExpr, Row_of-TypedExpr, end_of-TypedExpr, more_of-TypedExpr, items-the_row-TypedExpr as exprs_in, items_shown-the_row-TypedExpr-0 as exprs-shown}
use Rattle.typed_tree.specs.declared.form.StrictForm.{StrictForm}
use Rattle.typed_tree.specs.declared.unit.Captured.{Captured}
use denote.Hole.Carrier
use Rattle.typed_tree.specs.SharedTypes.{sem_of}
use Rattle.held_operations.specs.Constructs.{operations_of}
use Rattle.eval_model.specs.Expressions.{check_ends, error_type, makes_function, narrowed_to, nil_type}
use Rattle.eval_model.specs.Ways.{Turns}
use Rattle.eval_model.specs.Walk.{CapturesOver, ExprOver, OpsOver, RowOver}
use Rattle.tree_promises.specs.Types.{Stack, type_ways}
use Rattle.lower_model.specs.Making.{Making, all_do, captures_made, does, expr_made, expr_step, exprs_made, gets, in_turn, keeps, parts}
use Rattle.typed_making.specs.Laws.{ExpressionsAreTyped}
use Rattle.typed_making.specs.Mapped.{Leads}
use Rattle.typed_making.proofs.Parting.{come-lead, does-lead, fork-lead, gets-lead, guards-lead, keeps-lead, ops-lead, then-lead}

abbrev falses : List Operation
falses = Const (constant.Bool false) ∷ []

abbrev trues : List Operation
trues = Const (constant.Bool true) ∷ []

-- a value is kept in a slot, and tested
abbrev tests : ℕ → SemType → List Operation
tests own t = Store own ∷ Load own ∷ Test t ∷ []

module _ (env : List AtomDef) (place : Surroundings) (labels : Option (Turns ℕ)) (loop : Option (Turns Stack)) where
  -- the same function, said in two ways
  pub made : {F G : Making → Making} {p q : Stack} → F ≡ G → Leads env place labels loop G p q → Leads env place labels loop F p q
  made {p = p} {q = q} e g = subst (λ f. Leads env place labels loop f p q) (sym e) g

  abbrev Over : TypedExpr → Stack → Stack → Type 0
  Over e p q = ExprOver (type_ways env place) e p q

  captures-lead : (cs : List Captured) (p q : Stack) → CapturesOver (type_ways env place) cs p q → Leads env place labels loop (captures_made cs) p q
  captures-lead [] p q c = come-lead env place labels loop p q c
  captures-lead (c ∷ cs) p q (m, g, more) =
      then-lead env place labels loop (gets c.slot (narrowed_to c.narrowed c.ty)) (captures_made cs) p m q (gets-lead env place labels loop c.slot (narrowed_to c.narrowed c.ty) p m g) (captures-lead cs m q more)

  strict-leads : (form : StrictForm) (es : List TypedExpr) (p m q : Stack) → Leads env place labels loop (exprs_made es) p m → OpsOver (type_ways env place) (operations_of form (length es)) m q →
      Leads env place labels loop (λ m. all_do (operations_of form (length (map expr_made es))) (in_turn (map expr_made es) m)) p q
  strict-leads form es p m q h ops =
      subst (λ n. Leads env place labels loop (λ m. all_do (operations_of form n) (in_turn (map expr_made es) m)) p q) (sym (length-map es expr_made))
      (then-lead env place labels loop (exprs_made es) (all_do (operations_of form (length es))) p m q h (ops-lead env place labels loop (operations_of form (length es)) m q ops))

  mutual
    unfolding out-TypedExpr Carrier.out

    pub expr-leads : (e : TypedExpr) (p q : Stack) → Over e p q → Leads env place labels loop (expr_made e) p q
    expr-leads (Implied value type at) p q d = made (fold_out-TypedExpr (Making → Making) expr_step (Implied value type at)) (does-lead env place labels loop (Const value) p q d)
    expr-leads (Variable slot narrowed type at) p q g = made (fold_out-TypedExpr (Making → Making) expr_step (Variable slot narrowed type at)) (gets-lead env place labels loop slot (narrowed_to narrowed type) p q g)
    expr-leads (And' s left t right type at) p q (m, a, fork) =
        made (fold_out-TypedExpr (Making → Making) expr_step (And' s left t right type at))
        (then-lead env place labels loop (expr_made left) (parts (expr_made right) (all_do falses)) p m q (expr-leads left p m a) (fork-lead env place labels loop (expr_made right) (all_do falses) m q (λ x y h. expr-leads right x y h) (λ x y h. ops-lead env place labels loop falses x y h) fork))
    expr-leads (Or' s left t right type at) p q (m, a, fork) =
        made (fold_out-TypedExpr (Making → Making) expr_step (Or' s left t right type at))
        (then-lead env place labels loop (expr_made left) (parts (all_do trues) (expr_made right)) p m q (expr-leads left p m a) (fork-lead env place labels loop (all_do trues) (expr_made right) m q (λ x y h. ops-lead env place labels loop trues x y h) (λ x y h. expr-leads right x y h) fork))
    expr-leads (Conditional' s condition t middle u last type at) p q (m, a, fork) =
        made (fold_out-TypedExpr (Making → Making) expr_step (Conditional' s condition t middle u last type at))
        (then-lead env place labels loop (expr_made condition) (parts (expr_made middle) (expr_made last)) p m q (expr-leads condition p m a) (fork-lead env place labels loop (expr_made middle) (expr_made last) m q (λ x y h. expr-leads middle x y h) (λ x y h. expr-leads last x y h) fork))
    expr-leads (Elvis' own s left t right type at) p q (m, n, a, ops, fork) =
        made (fold_out-TypedExpr (Making → Making) expr_step (Elvis' own s left t right type at))
        (then-lead env place labels loop (expr_made left) (λ m. parts (expr_made right) (keeps own (sem_of type) []) (all_do (tests own nil_type) m)) p m q (expr-leads left p m a)
        (then-lead env place labels loop (all_do (tests own nil_type)) (parts (expr_made right) (keeps own (sem_of type) [])) m n q (ops-lead env place labels loop (tests own nil_type) m n ops)
        (fork-lead env place labels loop (expr_made right) (keeps own (sem_of type) []) n q (λ x y h. expr-leads right x y h) (λ x y h. keeps-lead env place labels loop own (sem_of type) [] x y h) fork)))
    expr-leads (Check' panics own s operand type at) p q (m, n, a, ops, fork) =
        made (fold_out-TypedExpr (Making → Making) expr_step (Check' panics own s operand type at))
        (then-lead env place labels loop (expr_made operand) (λ m. parts (keeps own error_type (check_ends panics ∷ [])) (keeps own (sem_of type) []) (all_do (tests own error_type) m)) p m q (expr-leads operand p m a)
        (then-lead env place labels loop (all_do (tests own error_type)) (parts (keeps own error_type (check_ends panics ∷ [])) (keeps own (sem_of type) [])) m n q (ops-lead env place labels loop (tests own error_type) m n ops)
        (fork-lead env place labels loop (keeps own error_type (check_ends panics ∷ [])) (keeps own (sem_of type) []) n q (λ x y h. keeps-lead env place labels loop own error_type (check_ends panics ∷ []) x y h) (λ x y h. keeps-lead env place labels loop own (sem_of type) [] x y h) fork)))
    expr-leads (Trap' s operand type at) p q (a, b, g, x) =
        made (fold_out-TypedExpr (Making → Making) expr_step (Trap' s operand type at)) (guards-lead env place labels loop (expr_made operand) p b q (subst (λ z. Leads env place labels loop (expr_made operand) z b) g.begins (expr-leads operand a b x)) g.ends g.lands)
    expr-leads (Function' function s value type at) p q (m, c, d) =
        made (fold_out-TypedExpr (Making → Making) expr_step (Function' function s value type at))
        (then-lead env place labels loop (captures_made function.value.captured) (does (makes_function function.value)) p m q (captures-lead function.value.captured p m c) (does-lead env place labels loop (makes_function function.value) m q d))
    expr-leads (Parens' s inner type at) p q a = made (fold_out-TypedExpr (Making → Making) expr_step (Parens' s inner type at)) (expr-leads inner p q a)
    expr-leads (Strict' form shape operands type at) p q (m, os, ops) =
        made (fold_out-TypedExpr (Making → Making) expr_step (Strict' form shape operands type at))
        (subst (λ es. Leads env place labels loop (λ m. all_do (operations_of form (length (map expr_made es))) (in_turn (map expr_made es) m)) p q) (sym (exprs-shown shape operands))
        (strict-leads form (exprs_in _ operands) p m q (row-leads operands p m os) ops))

    row-leads : {n : _} (row : Row_of-TypedExpr n) (p q : Stack) → RowOver (type_ways env place) row p q → Leads env place labels loop (exprs_made (exprs_in _ row)) p q
    row-leads end_of-TypedExpr p q c = come-lead env place labels loop p q c
    row-leads (more_of-TypedExpr e rest) p q (m, a, more) = then-lead env place labels loop (expr_made e) (exprs_made (exprs_in _ rest)) p m q (expr-leads e p m a) (row-leads rest m q more)

pub expressions-are-typed : ExpressionsAreTyped
expressions-are-typed env place labels loop e p q way = expr-leads env place labels loop e p q way
