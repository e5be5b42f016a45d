-- The folder of a module as a part of the name of a file.
use Rattle.std.proofs.Common.{◌≡◌, ◌≤◌, ◌+◌, ◌-◌, ℕ, zero, suc, Bool, true, false, cond, List, [], ◌∷◌, length, take, drop, Option, Some, None, IsSome, refl, sym, ap, ◌∙◌, subst, arith, codes, nat_eq}
use Rattle.std.proofs.lemmas.List.{length-drop}
use Rattle.std.proofs.lemmas.Option.{same_Some}
use Rattle.std.specs.Prelude.{option_and_then, position, slice_range}
use Rattle.std.specs.List.{starts_with}
use Rattle.package_files.specs.Names.{folder_at, is_plain, is_slash, module_below, module_of}

take-front : {X : Type 0} (k : ℕ) (xs : List X) → take (length (take k xs)) xs ≡ take k xs
take-front zero [] = refl
take-front zero (x ∷ xs) = refl
take-front (suc k) [] = refl
take-front (suc k) (x ∷ xs) = ap (λ ys. x ∷ ys) (take-front k xs)

take-short : {X : Type 0} (k : ℕ) (xs : List X) → length (take k xs) ≤ length xs
take-short zero [] = omega arith
take-short zero (x ∷ xs) = omega arith
take-short (suc k) [] = omega arith
take-short (suc k) (x ∷ xs) = let h = take-short k xs in omega arith

no-some : (f : List ℕ) → Some f ≡ None → ⊥
no-some f h = cc

more : (n : ℕ) → suc n ≡ 0 → ⊥
more n e = omega arith

no-truth : false ≡ true → ⊥
no-truth e = cc

no-value : {A : Type 0} (x : A) → Some x ≡ None → ⊥
no-value x e = cc

-- it is a front of what stands behind `modules/`
IsFront : List ℕ → List ℕ → Type 0
IsFront folder rest = (take (length folder) rest ≡ folder) × (length folder ≤ length rest)

front-of : (k : ℕ) (rest folder : List ℕ) → take k rest ≡ folder → IsFront folder rest
unfolding IsFront
front-of k rest folder e = subst (λ f. (take (length f) rest ≡ f) × (length f ≤ length rest)) e (take-front k rest, take-short k rest)

below : (b : Bool) (k : ℕ) (rest folder : List ℕ) → cond b (Some (take k rest)) None ≡ Some folder → IsFront folder rest
below true k rest folder e = front-of k rest folder (same_Some _ _ e)
below false k rest folder e = absurd (no-some folder (sym e))

below-at : (at : Option ℕ) (rest folder : List ℕ) → option_and_then (folder_at rest) at ≡ Some folder → IsFront folder rest
below-at None rest folder e = absurd (no-some folder (sym e))
below-at (Some k) rest folder e = below _ k rest folder e

behind : (plain starts : Bool) (name folder : List ℕ) → cond plain (Some []) (cond starts (module_below (drop 8 name)) None) ≡ Some folder
    → (length folder ≡ 0 → ⊥) → IsFront folder (drop 8 name)
behind true starts name folder e some = absurd (some (sym (ap length (same_Some _ _ e))))
behind false true name folder e some = below-at (position is_slash (drop 8 name)) (drop 8 name) folder e
behind false false name folder e some = absurd (no-some folder (sym e))

-- the part of the name that is the folder of a module other than the default one
pub folder-part : (name folder : List ℕ) → module_of name ≡ Some folder → (length folder ≡ 0 → ⊥)
    → (8 + length folder ≤ length name) × (slice_range name 8 (8 + length folder) ≡ folder)
unfolding IsFront
folder-part name folder e some =
    let front = behind (is_plain name) (starts_with nat_eq name (codes "modules/")) name folder e some in
    let left = length-drop 8 name in
    let short = front.1 in
    let count : (8 + length folder) - 8 ≡ length folder = omega arith in
    (omega arith, ap (λ n. take n (drop 8 name)) count ∙ front.0)

pub empty-of : (xs : List ℕ) → length xs ≡ 0 → xs ≡ []
empty-of [] e = refl
empty-of (x ∷ xs) e = absurd (more (length xs) e)

pub not-none : {A : Type 0} (o : Option A) → o ≡ None → IsSome o → ⊥
not-none None e h = absurd (no-truth h)
not-none (Some x) e h = absurd (no-value x e)
