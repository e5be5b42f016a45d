-- What an expression tells is what its maps say.
use Rattle.std.proofs.Common.{◌≡◌, ◌∙◌, ◌++◌, List, [], ◌∷◌, true, length, map, refl, sym, subst, ap}
use Rattle.std.proofs.lemmas.List.{length-map}
use Rattle.type_model.specs.declared.basic.SemType.{SemType}
use Rattle.operations.specs.Rows.{Surroundings}
use Rattle.typed_tree.specs.declared.expr.TypedExpr.{TypedExpr, Strict', Implied, Local as Variable, And', Or', Conditional', Elvis', Check', Trap', Function', Parens', out-TypedExpr, fold_out-TypedExpr, Row_of-TypedExpr, end_of-TypedExpr, more_of-TypedExpr, items-the_row-TypedExpr as exprs_in, items_shown-the_row-TypedExpr-0 as exprs-shown}
use Rattle.typed_tree.specs.declared.form.StrictForm.{StrictForm}
use denote.Hole.Carrier
use Rattle.typed_tree.specs.SharedTypes.{sem_of}
use Rattle.eval_model.specs.Expressions.{error_type}
use Rattle.tree_promises.specs.Types.{Stack}
use Rattle.map_model.specs.Maps.{captured_type, captures_maps, expr_maps, exprs_maps, mark, over, own_type, own_types, row_maps, taken_maps}
use Rattle.map_model.specs.Points.{PlainTypes, form_points, tested_points}
use Rattle.map_traces.specs.Constructs.{Known, form_traced, known_in, loads, tested}
use Rattle.map_traces.specs.Laws.{ExpressionsAreTraced}
use Rattle.map_traces.specs.Tracing.{Tracing, becomes, gives, leaves, place as place_more, takes, turned}
use Rattle.map_traces.specs.Trees.{expr_step, expr_traced, exprs_traced, forks, taken}
use Rattle.map_traces.proofs.Forms.{captures-told, form-told, loads-told}
use Rattle.map_traces.proofs.Operands.{at, pushed, takes-all}

module _ (plain : PlainTypes) (place : Surroundings) where
  abbrev known : Known
  known = known_in plain place

  abbrev Maps : TypedExpr → Stack → List Stack → List Stack
  Maps e p m = expr_maps plain place e p m

  abbrev Tells : TypedExpr → Tracing → Type 0
  Tells e k = expr_traced known e k ≡ at (own_type e ∷ k.waiting) (Maps e (turned k.waiting) k.places)

  -- operands that were told, and what is done with them
  strict-told : (form : StrictForm) (es : List TypedExpr) (given : SemType) (k : Tracing) (f : List Stack) → exprs_traced known es k ≡ at (pushed (own_types es) k.waiting) f →
      form_traced known form (length (map (expr_traced known) es)) given (exprs_traced known es k) ≡ at (given ∷ k.waiting) (over (turned k.waiting) (form_points plain form (own_types es)) f)
  strict-told form es given k f e =
      ap (form_traced known form (length (map (expr_traced known) es)) given) e
      ∙ ap (λ n. form_traced known form n given (at (pushed (own_types es) k.waiting) f)) (length-map es (expr_traced known) ∙ sym (length-map es own_type))
      ∙ form-told plain place form (own_types es) given k.waiting f

  mutual
    unfolding out-TypedExpr Carrier.out

    pub expr-told : (e : TypedExpr) (k : Tracing) → Tells e k
    expr-told (Implied value type where_) k = λ i. fold_out-TypedExpr (Tracing → Tracing) (expr_step known) (Implied value type where_) i k
    expr-told (Variable slot narrowed type where_) k =
        (λ i. fold_out-TypedExpr (Tracing → Tracing) (expr_step known) (Variable slot narrowed type where_) i k) ∙ loads-told plain place slot narrowed type k
    expr-told (And' s left t right type where_) k =
        let p : Stack = turned k.waiting in
        (λ i. fold_out-TypedExpr (Tracing → Tracing) (expr_step known) (And' s left t right type where_) i k)
        ∙ ap (forks (expr_traced known right) (gives (sem_of type))) (expr-told left k)
        ∙ ap (λ x. gives (sem_of type) (leaves x)) (expr-told right (at k.waiting (mark (p ++ own_type left ∷ []) (Maps left p k.places))))
    expr-told (Or' s left t right type where_) k =
        let p : Stack = turned k.waiting in
        (λ i. fold_out-TypedExpr (Tracing → Tracing) (expr_step known) (Or' s left t right type where_) i k)
        ∙ ap (λ x. becomes (sem_of type) (forks (gives (sem_of type)) (expr_traced known right) x)) (expr-told left k)
        ∙ ap (becomes (sem_of type)) (expr-told right (at k.waiting (mark (p ++ sem_of type ∷ []) (mark p (mark (p ++ own_type left ∷ []) (Maps left p k.places))))))
    expr-told (Conditional' s condition t middle u last type where_) k =
        let p : Stack = turned k.waiting in
        let m : List Stack = mark (p ++ own_type condition ∷ []) (Maps condition p k.places) in
        (λ i. fold_out-TypedExpr (Tracing → Tracing) (expr_step known) (Conditional' s condition t middle u last type where_) i k)
        ∙ ap (λ x. becomes (sem_of type) (forks (expr_traced known middle) (expr_traced known last) x)) (expr-told condition k)
        ∙ ap (λ x. becomes (sem_of type) (expr_traced known last (leaves x))) (expr-told middle (at k.waiting m))
        ∙ ap (becomes (sem_of type)) (expr-told last (at k.waiting (mark (p ++ own_type middle ∷ []) (Maps middle p m))))
    expr-told (Elvis' own s left t right type where_) k =
        let p : Stack = turned k.waiting in
        (λ i. fold_out-TypedExpr (Tracing → Tracing) (expr_step known) (Elvis' own s left t right type where_) i k)
        ∙ ap (λ x. forks (expr_traced known right) (loads known own true (sem_of type)) (tested known own x)) (expr-told left k)
        ∙ ap (λ x. loads known own true (sem_of type) (leaves x)) (expr-told right (at k.waiting (mark (p ++ plain.boolean ∷ []) (over p (tested_points plain place own (own_type left)) (Maps left p k.places)))))
    expr-told (Check' panics own s operand type where_) k =
        (λ i. fold_out-TypedExpr (Tracing → Tracing) (expr_step known) (Check' panics own s operand type where_) i k)
        ∙ ap (λ x. forks (λ y. takes 1 (sem_of type) (loads known own true error_type y)) (loads known own true (sem_of type)) (tested known own x)) (expr-told operand k)
    expr-told (Trap' s operand type where_) k =
        (λ i. fold_out-TypedExpr (Tracing → Tracing) (expr_step known) (Trap' s operand type where_) i k)
        ∙ ap (λ x. becomes (sem_of type) (place_more (becomes error_type (place_more (place_more x))))) (expr-told operand (place_more k))
    expr-told (Function' function s value type where_) k =
        let ts : Stack = map captured_type function.value.captured in
        (λ i. fold_out-TypedExpr (Tracing → Tracing) (expr_step known) (Function' function s value type where_) i k)
        ∙ ap (takes (length function.value.captured) (sem_of type)) (captures-told plain place function.value.captured k)
        ∙ takes-all ts (sem_of type) k.waiting (captures_maps plain place function.value.captured (turned k.waiting) k.places) (length function.value.captured) (sym (length-map function.value.captured captured_type))
    expr-told (Parens' s inner type where_) k =
        (λ i. fold_out-TypedExpr (Tracing → Tracing) (expr_step known) (Parens' s inner type where_) i k) ∙ ap (becomes (sem_of type)) (expr-told inner k)
    expr-told (Strict' form shape operands type where_) k =
        let es : List TypedExpr = exprs_in _ operands in
        let f : List Stack = row_maps plain place operands (turned k.waiting) k.places in
        (λ i. fold_out-TypedExpr (Tracing → Tracing) (expr_step known) (Strict' form shape operands type where_) i k)
        ∙ subst (λ xs. form_traced known form (length (map (expr_traced known) xs)) (sem_of type) (exprs_traced known xs k) ≡ at (sem_of type ∷ k.waiting) (over (turned k.waiting) (form_points plain form (own_types es)) f)) (sym (exprs-shown shape operands))
        (strict-told form es (sem_of type) k f (row-told operands k))

    pub row-told : {n : _} (row : Row_of-TypedExpr n) (k : Tracing) → exprs_traced known (exprs_in _ row) k ≡ at (pushed (own_types (exprs_in _ row)) k.waiting) (row_maps plain place row (turned k.waiting) k.places)
    row-told end_of-TypedExpr k = refl
    row-told (more_of-TypedExpr e rest) k =
        ap (exprs_traced known (exprs_in _ rest)) (expr-told e k) ∙ row-told rest (at (own_type e ∷ k.waiting) (Maps e (turned k.waiting) k.places))

  -- ---- several, and one whose value is taken

  pub exprs-told : (es : List TypedExpr) (k : Tracing) → exprs_traced known es k ≡ at (pushed (own_types es) k.waiting) (exprs_maps plain place es (turned k.waiting) k.places)
  exprs-told [] k = refl
  exprs-told (e ∷ es) k = ap (exprs_traced known es) (expr-told e k) ∙ exprs-told es (at (own_type e ∷ k.waiting) (Maps e (turned k.waiting) k.places))

  pub taken-told : (e : TypedExpr) (k : Tracing) → taken known e k ≡ at k.waiting (taken_maps plain place e (turned k.waiting) k.places)
  taken-told e k = ap leaves (expr-told e k)

pub expressions-are-traced : ExpressionsAreTraced
expressions-are-traced plain place e s = expr-told plain place e s
