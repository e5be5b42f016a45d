-- A tree is true exactly along its paths.
use Rattle.std.proofs.Common.{◌≡◌, ℕ, List, [], ◌∷◌, map, ◌&&◌, ◌||◌, not, Bool, true, false, if◌then◌else◌, refl, sym, ◌∙◌, ap}
use Rattle.std.specs.List.{list_any, list_all}
use Rattle.std.proofs.lemmas.List.Folds.{list_any-append}
use Rattle.type_diagrams.specs.declared.path.Path.{Path}
use Rattle.type_diagrams.specs.Trees.{Tree, No, Yes, By, eval}
use Rattle.type_diagrams.specs.Paths.{paths_of, with_pos, with_neg, is_along}

and_three : (x y z : Bool) → ((x && y) && z) ≡ (x && (y && z))
and_three true y z = refl
and_three false y z = refl

and_swap : (x y z : Bool) → (y && (x && z)) ≡ (x && (y && z))
and_swap true y z = refl
and_swap false true z = refl
and_swap false false z = refl

choice : (x p q : Bool) → (if x then p else q) ≡ ((x && p) || (not x && q))
choice true true q = refl
choice true false q = refl
choice false p q = refl

and_or : (x y z : Bool) → ((x && y) || (x && z)) ≡ (x && (y || z))
and_or true y z = refl
and_or false y z = refl

module _ (v : ℕ → Bool) (a : ℕ) where
  pos_any : (ps : List Path) → list_any (is_along v) (map (with_pos a) ps) ≡ (v a && list_any (is_along v) ps)
  pos_any [] = nothing (v a)
    where
      nothing : (x : Bool) → false ≡ (x && false)
      nothing true = refl
      nothing false = refl
  pos_any (p ∷ ps) =
      ap (λ b. b || list_any (is_along v) (map (with_pos a) ps)) (and_three (v a) (list_all v p.pos) (list_all (λ c. not (v c)) p.neg))
      ∙ ap (λ b. (v a && is_along v p) || b) (pos_any ps)
      ∙ and_or (v a) (is_along v p) (list_any (is_along v) ps)

  neg_any : (ps : List Path) → list_any (is_along v) (map (with_neg a) ps) ≡ (not (v a) && list_any (is_along v) ps)
  neg_any [] = nothing (v a)
    where
      nothing : (x : Bool) → false ≡ (not x && false)
      nothing true = refl
      nothing false = refl
  neg_any (p ∷ ps) =
      ap (λ b. b || list_any (is_along v) (map (with_neg a) ps)) (and_swap (not (v a)) (list_all v p.pos) (list_all (λ c. not (v c)) p.neg))
      ∙ ap (λ b. (not (v a) && is_along v p) || b) (neg_any ps)
      ∙ and_or (not (v a)) (is_along v p) (list_any (is_along v) ps)

pub eval-paths : (t : Tree) (v : ℕ → Bool) → eval t v ≡ list_any (is_along v) (paths_of t)
eval-paths No v = refl
eval-paths Yes v = refl
eval-paths (By a s t) v =
    choice (v a) (eval s v) (eval t v)
    ∙ ap (λ b. (v a && b) || (not (v a) && eval t v)) (eval-paths s v)
    ∙ ap (λ b. (v a && list_any (is_along v) (paths_of s)) || (not (v a) && b)) (eval-paths t v)
    ∙ sym (list_any-append (is_along v) (map (with_pos a) (paths_of s)) (map (with_neg a) (paths_of t))
    ∙ ap (λ b. b || list_any (is_along v) (map (with_neg a) (paths_of t))) (pos_any v a (paths_of s))
    ∙ ap (λ b. (v a && list_any (is_along v) (paths_of s)) || b) (neg_any v a (paths_of t)))
