-- Definitions over trees whose steps see the parts themselves beside what was made of them.
use Rattle.std.proofs.Common.{◌≡◌, ◌∙◌, List, [], ◌∷◌, map, sym, ap, refl}
use Rattle.typed_tree.specs.declared.expr.TypedExpr.{TypedExpr, TypedExpr-F, map-TypedExpr, out-TypedExpr, para-TypedExpr, para-roll-TypedExpr, roll-out-TypedExpr}

-- what a step that sees its parts makes of a tree, by the outermost layer
pub para_out : (A : Type 0) (step : TypedExpr-F (TypedExpr × A) → A) (e : TypedExpr) → para-TypedExpr A step e ≡ step (map-TypedExpr TypedExpr (TypedExpr × A) (λ t. (t, para-TypedExpr A step t)) (out-TypedExpr e))
para_out A step e = ap (para-TypedExpr A step) (sym (roll-out-TypedExpr e)) ∙ para-roll-TypedExpr A step (out-TypedExpr e)

-- of parts with what was made of them, what was made
pub seconds : {X A : Type 0} (f : X → A) (xs : List X) → map (λ (e : X × A). e.1) (map (λ t. (t, f t)) xs) ≡ map f xs
seconds f [] = refl
seconds f (x ∷ xs) = ap (λ ys. f x ∷ ys) (seconds f xs)

-- what is made of what was made
pub seconds_with : {X A B : Type 0} (f : X → A) (g : A → B) (xs : List X) → map (λ (e : X × A). g e.1) (map (λ t. (t, f t)) xs) ≡ map (λ t. g (f t)) xs
seconds_with f g [] = refl
seconds_with f g (x ∷ xs) = ap (λ ys. g (f x) ∷ ys) (seconds_with f g xs)

-- the parts
pub firsts : {X A : Type 0} (f : X → A) (xs : List X) → map (λ (e : X × A). e.0) (map (λ t. (t, f t)) xs) ≡ xs
firsts f [] = refl
firsts f (x ∷ xs) = ap (λ ys. x ∷ ys) (firsts f xs)
