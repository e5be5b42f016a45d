-- What is added for an expression that is typed as it is written has the maps of the expression.
use Rattle.std.proofs.Common.{◌≡◌, ◌++◌, ℕ, List, [], ◌∷◌, length, Option, Some, true, false, map, refl, sym, subst}
use Rattle.std.proofs.lemmas.List.{length-map}
use Rattle.type_model.specs.declared.atoms.AtomDef.{AtomDef}
use Rattle.type_model.specs.declared.basic.SemType.{SemType}
use Rattle.operations.specs.declared.operation.Constant.TheVariants as constant
use Rattle.operations.specs.declared.operation.Operation.{Operation}
use Rattle.operations.specs.declared.operation.Operation.TheVariants.{Const, Load, Store, Test}
use Rattle.operations.specs.Rows.{AreBelow, Surroundings}
use Rattle.typed_tree.specs.declared.expr.TypedExpr.{TypedExpr, Strict', Implied, Local as Variable, And', Or', Conditional', Elvis', Check', Trap', Function', Parens', out-TypedExpr, fold_out-TypedExpr, Row_of-TypedExpr, end_of-TypedExpr, more_of-TypedExpr, items-the_row-TypedExpr as exprs_in, items_shown-the_row-TypedExpr-0 as exprs-shown}
use Rattle.typed_tree.specs.declared.form.StrictForm.{StrictForm}
use Rattle.typed_tree.specs.declared.unit.Captured.{Captured}
use denote.Hole.Carrier
use Rattle.typed_tree.specs.SharedTypes.{sem_of}
use Rattle.held_operations.specs.Constructs.{operations_of}
use Rattle.eval_model.specs.Expressions.{check_ends, error_type, makes_function, narrowed_to, nil_type}
use Rattle.eval_model.specs.Ways.{Turns}
use Rattle.tree_promises.specs.Types.{Stack}
use Rattle.lower_model.specs.Making.{Making, all_do, captures_made, does, expr_made, expr_step, exprs_made, gets, in_turn, keeps, parts}
use Rattle.typed_making.proofs.Mapping.{below-itself}
use Rattle.map_model.specs.Laws.{ExpressionsAreMapped}
use Rattle.map_model.specs.Maps.{Marks, above, along, captured_type, captures_maps, each, expr_maps, gets_maps, mark, over, own_type, own_types, row_maps}
use Rattle.map_model.specs.Marked.{LeadsBy}
use Rattle.map_model.specs.Points.{PlainTypes, form_points, tested_points}
use Rattle.map_model.specs.Written.{CapturesWritten, ExprWritten, RowWritten, Runs, TestsWritten}
use Rattle.map_model.proofs.Meeting.{come-lead, does-lead, from-same, gets-lead, guards-lead, parts-lead, runs-lead, then-lead}

abbrev falses : List Operation
falses = Const (constant.Bool false) ∷ []

abbrev trues : List Operation
trues = Const (constant.Bool true) ∷ []

-- a value is kept in a slot, and tested
abbrev tests : ℕ → SemType → List Operation
tests own t = Store own ∷ Load own ∷ Test t ∷ []

module _ (plain : PlainTypes) (env : List AtomDef) (place : Surroundings) (labels : Option (Turns ℕ)) (loop : Option (Turns Stack)) where
  abbrev Lead : (Making → Making) → Marks → Stack → Stack → Type 0
  Lead F f p q = LeadsBy env place labels loop F f p q

  -- the same function, said in two ways
  pub made : {F G : Making → Making} {f : Marks} {p q : Stack} → F ≡ G → Lead G f p q → Lead F f p q
  made {f = f} {p = p} {q = q} e g = subst (λ h. Lead h f p q) (sym e) g

  captures-lead : (cs : List Captured) (p : Stack) → CapturesWritten plain env place cs p → Lead (captures_made cs) (captures_maps plain place cs p) p (above p (map captured_type cs))
  captures-lead [] p h = come-lead plain env place labels loop p p (below-itself env place p)
  captures-lead (c ∷ cs) p (g, more) =
      let m : Stack = p ++ captured_type c ∷ [] in
      then-lead plain env place labels loop (gets c.slot (narrowed_to c.narrowed c.ty)) (captures_made cs) (gets_maps plain place c.slot (narrowed_to c.narrowed c.ty) p) (captures_maps plain place cs m) p m (above m (map captured_type cs))
      (gets-lead plain env place labels loop c.slot (narrowed_to c.narrowed c.ty) p m g) (captures-lead cs m more)

  -- operations over operands that were added one by one
  pub runs-over : (ops : List Operation) (points : List Stack) (p m n q : Stack) (F : Making → Making) (f : Marks) → Lead F f p m → m ≡ n → Runs plain env place ops points n q → Lead (λ x. all_do ops (F x)) (λ k. along points (f k)) p q
  runs-over ops points p m n q F f x e r = then-lead plain env place labels loop F (all_do ops) f (along points) p m q x (from-same plain env place labels loop (all_do ops) (along points) m n q e (runs-lead plain env place labels loop ops points n q r))

  strict-leads : (form : StrictForm) (es : List TypedExpr) (f : Marks) (p m q : Stack) (points : List Stack) → Lead (exprs_made es) f p m → Runs plain env place (operations_of form (length es)) points m q →
      Lead (λ x. all_do (operations_of form (length (map expr_made es))) (in_turn (map expr_made es) x)) (λ k. along points (f k)) p q
  strict-leads form es f p m q points h r =
      subst (λ n. Lead (λ x. all_do (operations_of form n) (in_turn (map expr_made es) x)) (λ k. along points (f k)) p q) (sym (length-map es expr_made))
      (runs-over (operations_of form (length es)) points p m m q (exprs_made es) f h refl r)

  -- a value is kept in a slot and tested, behind what gave it; then ways part
  tested-leads : (own : ℕ) (given t : SemType) (F G H : Making → Making) (f g h : Marks) (p m n q : Stack) → Lead F f p (p ++ given ∷ []) → TestsWritten plain env place own given t p →
      Lead G g p m → AreBelow env m q → Lead H h p n → AreBelow env n q →
      Lead (λ x. parts G H (all_do (tests own t) (F x))) (λ k. h (mark m (g (mark (p ++ plain.boolean ∷ []) (over p (tested_points plain place own given) (f k)))))) p q
  tested-leads own given t F G H f g h p m n q x (runs, holds) y b z c =
      then-lead plain env place labels loop (λ x. all_do (tests own t) (F x)) (parts G H) (λ k. over p (tested_points plain place own given) (f k)) (λ k. h (mark m (g (mark (p ++ plain.boolean ∷ []) k)))) p (p ++ plain.boolean ∷ []) q
      (runs-over (tests own t) (each p (tested_points plain place own given)) p (p ++ given ∷ []) (p ++ given ∷ []) (p ++ plain.boolean ∷ []) F f x refl runs)
      (parts-lead plain env place labels loop G H g h (p ++ plain.boolean ∷ []) p m p n q holds y b holds z c)

  mutual
    unfolding out-TypedExpr Carrier.out

    pub expr-leads : (e : TypedExpr) (p : Stack) → ExprWritten plain env place e p → Lead (expr_made e) (expr_maps plain place e p) p (p ++ own_type e ∷ [])
    expr-leads (Implied value type at) p d = made (fold_out-TypedExpr (Making → Making) expr_step (Implied value type at)) (does-lead plain env place labels loop (Const value) p (p ++ sem_of type ∷ []) d)
    expr-leads (Variable slot narrowed type at) p g = made (fold_out-TypedExpr (Making → Making) expr_step (Variable slot narrowed type at)) (gets-lead plain env place labels loop slot (narrowed_to narrowed type) p (p ++ sem_of type ∷ []) g)
    expr-leads (And' s left t right type at) p (a, holds, b, c, d) =
        let q : Stack = p ++ sem_of type ∷ [] in
        let m : Stack = p ++ own_type left ∷ [] in
        let n : Stack = p ++ own_type right ∷ [] in
        made (fold_out-TypedExpr (Making → Making) expr_step (And' s left t right type at))
        (then-lead plain env place labels loop (expr_made left) (parts (expr_made right) (all_do falses)) (expr_maps plain place left p) (λ k. mark p (mark n (expr_maps plain place right p (mark m k)))) p m q (expr-leads left p a)
        (parts-lead plain env place labels loop (expr_made right) (all_do falses) (expr_maps plain place right p) (mark p) m p n p q q holds (expr-leads right p b) c holds (does-lead plain env place labels loop (Const (constant.Bool false)) p q d) (below-itself env place q)))
    expr-leads (Or' s left t right type at) p (a, holds, d, b, c) =
        let q : Stack = p ++ sem_of type ∷ [] in
        let m : Stack = p ++ own_type left ∷ [] in
        let n : Stack = p ++ own_type right ∷ [] in
        made (fold_out-TypedExpr (Making → Making) expr_step (Or' s left t right type at))
        (then-lead plain env place labels loop (expr_made left) (parts (all_do trues) (expr_made right)) (expr_maps plain place left p) (λ k. expr_maps plain place right p (mark q (mark p (mark m k)))) p m q (expr-leads left p a)
        (parts-lead plain env place labels loop (all_do trues) (expr_made right) (mark p) (expr_maps plain place right p) m p q p n q holds (does-lead plain env place labels loop (Const (constant.Bool true)) p q d) (below-itself env place q) holds (expr-leads right p b) c))
    expr-leads (Conditional' s condition t middle u last type at) p (a, holds, b, c, d, e) =
        let q : Stack = p ++ sem_of type ∷ [] in
        let m : Stack = p ++ own_type condition ∷ [] in
        let n : Stack = p ++ own_type middle ∷ [] in
        let o : Stack = p ++ own_type last ∷ [] in
        made (fold_out-TypedExpr (Making → Making) expr_step (Conditional' s condition t middle u last type at))
        (then-lead plain env place labels loop (expr_made condition) (parts (expr_made middle) (expr_made last)) (expr_maps plain place condition p) (λ k. expr_maps plain place last p (mark n (expr_maps plain place middle p (mark m k)))) p m q (expr-leads condition p a)
        (parts-lead plain env place labels loop (expr_made middle) (expr_made last) (expr_maps plain place middle p) (expr_maps plain place last p) m p n p o q holds (expr-leads middle p b) c holds (expr-leads last p d) e))
    expr-leads (Elvis' own s left t right type at) p (a, tested, b, c, get) =
        let q : Stack = p ++ sem_of type ∷ [] in
        made (fold_out-TypedExpr (Making → Making) expr_step (Elvis' own s left t right type at))
        (tested-leads own (own_type left) nil_type (expr_made left) (expr_made right) (keeps own (sem_of type) []) (expr_maps plain place left p) (expr_maps plain place right p) (gets_maps plain place own (Some (sem_of type)) p) p (p ++ own_type right ∷ []) q q
        (expr-leads left p a) tested (expr-leads right p b) c (gets-lead plain env place labels loop own (Some (sem_of type)) p q get) (below-itself env place q))
    expr-leads (Check' panics own s operand type at) p (a, tested, error, leaves, get) =
        let q : Stack = p ++ sem_of type ∷ [] in
        let r : Stack = p ++ error_type ∷ [] in
        made (fold_out-TypedExpr (Making → Making) expr_step (Check' panics own s operand type at))
        (tested-leads own (own_type operand) error_type (expr_made operand) (keeps own error_type (check_ends panics ∷ [])) (keeps own (sem_of type) []) (expr_maps plain place operand p) (λ k. mark r (gets_maps plain place own (Some error_type) p k)) (gets_maps plain place own (Some (sem_of type)) p) p q q q
        (expr-leads operand p a) tested
        (then-lead plain env place labels loop (gets own (Some error_type)) (does (check_ends panics)) (gets_maps plain place own (Some error_type) p) (mark r) p r q (gets-lead plain env place labels loop own (Some error_type) p r error) (does-lead plain env place labels loop (check_ends panics) r q leaves))
        (below-itself env place q) (gets-lead plain env place labels loop own (Some (sem_of type)) p q get) (below-itself env place q))
    expr-leads (Trap' s operand type at) p (a, b, c) =
        made (fold_out-TypedExpr (Making → Making) expr_step (Trap' s operand type at))
        (guards-lead plain env place labels loop (expr_made operand) (expr_maps plain place operand p) p (p ++ own_type operand ∷ []) (p ++ sem_of type ∷ []) (expr-leads operand p a) b c)
    expr-leads (Function' function s value type at) p (cs, d) =
        let m : Stack = above p (map captured_type function.value.captured) in
        let q : Stack = p ++ sem_of type ∷ [] in
        made (fold_out-TypedExpr (Making → Making) expr_step (Function' function s value type at))
        (then-lead plain env place labels loop (captures_made function.value.captured) (does (makes_function function.value)) (captures_maps plain place function.value.captured p) (mark m) p m q (captures-lead function.value.captured p cs) (does-lead plain env place labels loop (makes_function function.value) m q d))
    expr-leads (Parens' s inner type at) p (a, e) =
        made (fold_out-TypedExpr (Making → Making) expr_step (Parens' s inner type at)) (subst (λ t. Lead (expr_made inner) (expr_maps plain place inner p) p (p ++ t ∷ [])) e (expr-leads inner p a))
    expr-leads (Strict' form shape operands type at) p (os, r) =
        let es : List TypedExpr = exprs_in _ operands in
        let points : List Stack = each p (form_points plain form (own_types es)) in
        let q : Stack = p ++ sem_of type ∷ [] in
        made (fold_out-TypedExpr (Making → Making) expr_step (Strict' form shape operands type at))
        (subst (λ xs. Lead (λ x. all_do (operations_of form (length (map expr_made xs))) (in_turn (map expr_made xs) x)) (λ k. along points (row_maps plain place operands p k)) p q) (sym (exprs-shown shape operands))
        (strict-leads form es (row_maps plain place operands p) p (above p (own_types es)) q points (row-leads operands p os) r))

    row-leads : {n : _} (row : Row_of-TypedExpr n) (p : Stack) → RowWritten plain env place row p → Lead (exprs_made (exprs_in _ row)) (row_maps plain place row p) p (above p (own_types (exprs_in _ row)))
    row-leads end_of-TypedExpr p h = come-lead plain env place labels loop p p (below-itself env place p)
    row-leads (more_of-TypedExpr e rest) p (a, more) =
        let m : Stack = p ++ own_type e ∷ [] in
        let es : List TypedExpr = exprs_in _ rest in
        then-lead plain env place labels loop (expr_made e) (exprs_made es) (expr_maps plain place e p) (row_maps plain place rest m) p m (above m (own_types es)) (expr-leads e p a) (row-leads rest m more)

pub expressions-are-mapped : ExpressionsAreMapped
expressions-are-mapped plain env place labels loop e p h = expr-leads plain env place labels loop e p h
