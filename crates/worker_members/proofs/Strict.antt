-- What is marked in a construct that evaluates all its operands, and the type of the last of them.
use Rattle.std.proofs.Common.{rules, ◌≡◌, ◌∙◌, ◌<◌, ℕ, zero, suc, List, [], ◌∷◌, map, length, refl, sym, ap, arith}
use Rattle.std.specs.Prelude.{◌-◌, Some, None, slice_get}
use Rattle.std.specs.Global.{Box, Vec}
use Rattle.std.proofs.lemmas.Option.{slice_get-get_or, slice_get_within}
use Rattle.bal_base.specs.declared.place.Place.{Place}
use Rattle.typed_tree.specs.declared.expr.TypedExpr.{TypedExpr, fold_out-TypedExpr, map-TypedExpr, out-TypedExpr}
use Rattle.typed_tree.specs.declared.expr.TypedExpr.TheOpen as layer
use Rattle.typed_tree.specs.declared.expr.TypedExpr.TheVariants.{Conditional, Strict, outs-Strict}
use Rattle.typed_tree.specs.declared.form.StrictForm.{StrictForm}
use Rattle.typed_tree.specs.declared.stmt.Source.{Source}
use Rattle.typed_tree.specs.declared.stmt.TypedStmt.{TypedStmt}
use Rattle.typed_tree.specs.declared.stmt.TypedStmt.TheVariants.{Foreach, If, While}
use Rattle.typed_tree.specs.ExprLayers.{TypedExprOf}
use Rattle.typed_tree.specs.Exprs.{type_of}
use Rattle.typed_tree.specs.Listed.{◌&◌}
use Rattle.typed_tree.specs.SharedTypes.{Shared, sem_of}
use Rattle.typed_tree.specs.StmtLayers.{of_typed_stmt}
use Rattle.typed_tree.proofs.ExprLayers.{expr_layers}
use Rattle.typed_tree.proofs.StmtLayers.{stmt_layers}
use Rattle.worker_pairing.specs.Marks.{With, expr_marks, expr_step, exprs_marks, form_marks, last_type, marked, marking, nil_type, set_apart, source_marks, stmts_marks, typed_marks}

-- ---- by the outermost layer

by-layer : (e : TypedExpr) (y : TypedExprOf TypedExpr) → out-TypedExpr e ≡ y → typed_marks e ≡ expr_step (map-TypedExpr TypedExpr With typed_marks y)
by-layer e y is = fold_out-TypedExpr With expr_step e ∙ ap (λ x. expr_step (map-TypedExpr TypedExpr With typed_marks x)) is

marked-all : (es : List TypedExpr) → marked (map typed_marks es) ≡ exprs_marks es
marked-all [] = refl
marked-all (e ∷ es) = ap (λ l. expr_marks e & l) (marked-all es)

pub strict-marks : (e : TypedExpr) (form : StrictForm) (operands : Vec TypedExpr) (type : Shared) (at : Place) → e ≡ Strict form operands type at
    → expr_marks e ≡ exprs_marks operands.items & form_marks form (last_type (map typed_marks operands.items)) (sem_of type) at
strict-marks e form operands type at is =
    ap (λ (w : With). w.1) (by-layer e (layer.Strict form operands type at) (ap out-TypedExpr is ∙ outs-Strict form operands type at))
    ∙ ap (λ l. l & form_marks form (last_type (map typed_marks operands.items)) (sem_of type) at) (marked-all operands.items)

pub conditional-marks : (condition middle last : Box TypedExpr) (type : Shared) (at : Place)
    → expr_marks (Conditional condition middle last type at) ≡ (expr_marks condition.value & set_apart (expr_marks middle.value) & set_apart (expr_marks last.value))
conditional-marks condition middle last type at = search (rules, expr_layers)

pub if-marks : (condition : Box TypedExpr) (first second : Vec TypedStmt) (at : Place)
    → of_typed_stmt marking (If condition first second at) ≡ (expr_marks condition.value & set_apart (stmts_marks first.items) & set_apart (stmts_marks second.items))
if-marks condition first second at = search (rules, stmt_layers)

pub while-marks : (condition : Box TypedExpr) (body : Vec TypedStmt) (at : Place)
    → of_typed_stmt marking (While condition body at) ≡ set_apart (expr_marks condition.value & stmts_marks body.items)
while-marks condition body at = search (rules, stmt_layers)

pub foreach-marks : (slot : ℕ) (source : Source) (body : Vec TypedStmt) (at : Place)
    → of_typed_stmt marking (Foreach slot source body at) ≡ set_apart (source_marks source & stmts_marks body.items)
foreach-marks slot source body at = search (rules, stmt_layers)

-- ---- types

abbrev type_in : TypedExprOf TypedExpr → Shared
type_in (layer.Strict form operands type at) = type
type_in (layer.Implied value type at) = type
type_in (layer.Local slot narrowed type at) = type
type_in (layer.And left right type at) = type
type_in (layer.Or left right type at) = type
type_in (layer.Conditional condition middle last type at) = type
type_in (layer.Elvis own left right type at) = type
type_in (layer.Check panics own operand type at) = type
type_in (layer.Trap operand type at) = type
type_in (layer.Function function value type at) = type
type_in (layer.Parens inner type at) = type

typed-layer : (y : TypedExprOf TypedExpr) → (expr_step (map-TypedExpr TypedExpr With typed_marks y)).0 ≡ sem_of (type_in y)
typed-layer (layer.Strict form operands type at) = refl
typed-layer (layer.Implied value type at) = refl
typed-layer (layer.Local slot narrowed type at) = refl
typed-layer (layer.And left right type at) = refl
typed-layer (layer.Or left right type at) = refl
typed-layer (layer.Conditional condition middle last type at) = refl
typed-layer (layer.Elvis own left right type at) = refl
typed-layer (layer.Check panics own operand type at) = refl
typed-layer (layer.Trap operand type at) = refl
typed-layer (layer.Function function value type at) = refl
typed-layer (layer.Parens inner type at) = refl

typed-type : (e : TypedExpr) → (typed_marks e).0 ≡ sem_of (type_of e)
typed-type e = ap (λ (w : With). w.0) (by-layer e (out-TypedExpr e) refl) ∙ typed-layer (out-TypedExpr e)

-- ---- the last one

some-same : (x e : TypedExpr) → Some x ≡ Some e → x ≡ e
some-same x e h = grind (arith, h)

last-at : (es : List TypedExpr) (k : ℕ) (e : TypedExpr) → suc k ≡ length es → slice_get es k ≡ Some e → last_type (map typed_marks es) ≡ sem_of (type_of e)
last-at [] k e long h = absurd (omega (arith, long))
last-at (x ∷ []) zero e long h = typed-type x ∙ ap (λ y. sem_of (type_of y)) (some-same x e h)
last-at (x ∷ []) (suc k) e long h = absurd (omega (arith, long))
last-at (x ∷ y ∷ more) zero e long h = absurd (omega (arith, long))
last-at (x ∷ y ∷ more) (suc k) e long h = last-at (y ∷ more) k e (omega (arith, long)) h

pub last-there : (es : List TypedExpr) (e : TypedExpr) → Some e ≡ slice_get es (length es - 1) → sem_of (type_of e) ≡ last_type (map typed_marks es)
last-there es e h =
    let lt : length es - 1 < length es = slice_get_within es (length es - 1) e (sym h) in
    sym (last-at es (length es - 1) e (omega (arith, lt)) (sym h))

pub last-none : (es : List TypedExpr) → None ≡ slice_get es (length es - 1) → nil_type ≡ last_type (map typed_marks es)
last-none [] h = refl
last-none (e ∷ es) h = absurd (let there = slice_get-get_or (e ∷ es) (length (e ∷ es) - 1) e (omega arith) in let bad : ⊥ = grind (arith, h, there) in bad)
