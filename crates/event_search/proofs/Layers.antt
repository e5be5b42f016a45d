-- What is marked in some constructs, by their outermost layer.
use Rattle.std.proofs.Common.{rules, ◌≡◌, ◌∙◌, ◌==◌, ℕ, Bool, true, false, List, [], ◌∷◌, map, length, refl, ap, arith}
use Rattle.std.specs.Prelude.{Option}
use Rattle.std.specs.Global.{Box, Vec}
use Rattle.std.proofs.lemmas.Bool.{eqb-true}
use Rattle.bal_base.specs.declared.place.Place.{Place}
use Rattle.operations.specs.Talk.{workers_in}
use Rattle.typed_tree.specs.declared.event.EventKind.TheVariants.{Wait}
use Rattle.typed_tree.specs.declared.expr.TypedExpr.{TypedExpr, fold_out-TypedExpr, map-TypedExpr, out-TypedExpr}
use Rattle.typed_tree.specs.declared.expr.TypedExpr.TheOpen as layer
use Rattle.typed_tree.specs.declared.expr.TypedExpr.TheVariants.{Conditional, Strict, outs-Strict}
use Rattle.typed_tree.specs.declared.form.StrictForm.{StrictForm}
use Rattle.typed_tree.specs.declared.stmt.Source.{Source}
use Rattle.typed_tree.specs.declared.stmt.TypedStmt.{TypedStmt}
use Rattle.typed_tree.specs.declared.stmt.TypedStmt.TheVariants.{Foreach, If, While}
use Rattle.typed_tree.specs.ExprLayers.{TypedExprOf}
use Rattle.typed_tree.specs.Listed.{one, ◌&◌}
use Rattle.typed_tree.specs.SharedTypes.{Shared, sem_of}
use Rattle.typed_tree.specs.StmtLayers.{of_typed_stmt}
use Rattle.typed_tree.proofs.ExprLayers.{expr_layers}
use Rattle.typed_tree.proofs.StmtLayers.{stmt_layers}
use Rattle.worker_pairing.specs.Marks.{Says, With, alternate_marks, expr_marks, expr_step, exprs_marks, form_marks, last_type, marked, marking, nil_type, set_apart, source_marks, stmts_marks, typed_marks}
use Rattle.event_search.specs.declared.search.Search.{Search}
use Rattle.event_search.specs.inner.Walking.{Goes}
use Rattle.event_search.proofs.Walks.{goes-apart}

by-layer : (e : TypedExpr) (y : TypedExprOf TypedExpr) → out-TypedExpr e ≡ y → typed_marks e ≡ expr_step (map-TypedExpr TypedExpr With typed_marks y)
by-layer e y is = fold_out-TypedExpr With expr_step e ∙ ap (λ x. expr_step (map-TypedExpr TypedExpr With typed_marks x)) is

marked-all : (es : List TypedExpr) → marked (map typed_marks es) ≡ exprs_marks es
marked-all [] = refl
marked-all (e ∷ es) = ap (λ l. expr_marks e & l) (marked-all es)

pub strict-marks : (e : TypedExpr) (form : StrictForm) (operands : Vec TypedExpr) (type : Shared) (at : Place) → e ≡ Strict form operands type at
    → expr_marks e ≡ exprs_marks operands.items & form_marks form (last_type (map typed_marks operands.items)) (sem_of type) at
strict-marks e form operands type at is =
    ap (λ (w : With). w.1) (by-layer e (layer.Strict form operands type at) (ap out-TypedExpr is ∙ outs-Strict form operands type at))
    ∙ ap (λ l. l & form_marks form (last_type (map typed_marks operands.items)) (sem_of type) at) (marked-all operands.items)

pub conditional-marks : (condition middle last : Box TypedExpr) (type : Shared) (at : Place)
    → expr_marks (Conditional condition middle last type at) ≡ (expr_marks condition.value & set_apart (expr_marks middle.value) & set_apart (expr_marks last.value))
conditional-marks condition middle last type at = search (rules, expr_layers)

pub if-marks : (condition : Box TypedExpr) (first second : Vec TypedStmt) (at : Place)
    → of_typed_stmt marking (If condition first second at) ≡ (expr_marks condition.value & set_apart (stmts_marks first.items) & set_apart (stmts_marks second.items))
if-marks condition first second at = search (rules, stmt_layers)

pub while-marks : (condition : Box TypedExpr) (body : Vec TypedStmt) (at : Place)
    → of_typed_stmt marking (While condition body at) ≡ set_apart (expr_marks condition.value & stmts_marks body.items)
while-marks condition body at = search (rules, stmt_layers)

pub foreach-marks : (slot : ℕ) (source : Source) (body : Vec TypedStmt) (at : Place)
    → of_typed_stmt marking (Foreach slot source body at) ≡ set_apart (source_marks source & stmts_marks body.items)
foreach-marks slot source body at = search (rules, stmt_layers)

-- an alternate wait for nothing
pub alternate-none : (first : Bool) (names : List (Option ℕ)) (at : Place) (old new : Search) → (length names == 0) ≡ true
    → Goes first (one (Says (Wait (workers_in names)) at false nil_type)) old new → Goes first (alternate_marks names at) old new
alternate-none first [] at old new none h = goes-apart first (one (Says (Wait []) at false nil_type)) old new h
alternate-none first (name ∷ names) at old new none h = let long = eqb-true (length (name ∷ names)) 0 none in absurd (omega (arith, long))
