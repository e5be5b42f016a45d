-- What is noted of a construct that evaluates all its operands.
use Rattle.std.proofs.Common.{◌≡◌, ◌∙◌, map, ap}
use Rattle.std.specs.Global.{Vec}
use Rattle.bal_base.specs.declared.place.Place.{Place}
use Rattle.typed_tree.specs.declared.expr.TypedExpr.{TypedExpr, TypedExpr-F, map-TypedExpr, out-TypedExpr, para-TypedExpr}
use Rattle.typed_tree.specs.declared.expr.TypedExpr.TheVariants.{Strict, outs-Strict}
use Rattle.typed_tree.specs.declared.expr.TypedExpr.TheOpen as layer
use Rattle.typed_tree.specs.declared.form.StrictForm.{StrictForm}
use Rattle.typed_tree.specs.Listed.{Listed, ◌&◌, joined}
use Rattle.typed_tree.specs.SharedTypes.{Shared}
use Rattle.typed_tree.proofs.SeenParts.{firsts, para_out, seconds_with}
use Rattle.isolation_check.specs.declared.parts.Within.{Within}
use Rattle.isolation_check.specs.Parts.{Noted, expr_parts, form_parts}

para-at : (A : Type 0) (step : TypedExpr-F (TypedExpr × A) → A) (e : TypedExpr) (x : TypedExpr-F TypedExpr) → out-TypedExpr e ≡ x
    → para-TypedExpr A step e ≡ step (map-TypedExpr TypedExpr (TypedExpr × A) (λ t. (t, para-TypedExpr A step t)) x)
para-at A step e x o = para_out A step e ∙ ap (λ y. step (map-TypedExpr TypedExpr (TypedExpr × A) (λ t. (t, para-TypedExpr A step t)) y)) o

pub strict-parts : (e : TypedExpr) (w : Within) (form : StrictForm) (operands : Vec TypedExpr) (type : Shared) (at : Place) → e ≡ Strict form operands type at
    → expr_parts e w ≡ form_parts form operands.items at w & joined (map (λ o. expr_parts o w) operands.items)
strict-parts e w form operands type at is =
    ap (λ (f : Within → Listed Noted). f w) (para-at _ _ e (layer.Strict form operands type at) (ap out-TypedExpr is ∙ outs-Strict form operands type at))
    ∙ ap (λ es. form_parts form es at w & joined (map (λ (o : TypedExpr × (Within → Listed Noted)). o.1 w) (map (λ t. (t, expr_parts t)) operands.items))) (firsts expr_parts operands.items)
    ∙ ap (λ l. form_parts form operands.items at w & joined l) (seconds_with expr_parts (λ f. f w) operands.items)
