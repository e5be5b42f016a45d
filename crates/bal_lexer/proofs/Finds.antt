-- The first element that passes a test, of a list in which each longer one comes first.
use Rattle.std.proofs.Common.{◌≡◌, ℕ, zero, suc, ◌≤◌, Bool, true, false, ◌&&◌, nat_le, List, [], ◌∷◌, Some, None, inl, inr, sym, ap, ◌∙◌, arith}
use Rattle.std.specs.Prelude.{Contains, find}
use Rattle.std.specs.List.{list_all}
use Rattle.bal_base.proofs.Tables.{list_all-at}
use Rattle.std.proofs.lemmas.Bool.{cases_Bool, and_parts, leb-true}

pub find-none : {X : Type 0} (p : X → Bool) (xs : List X) (y : X) → find p xs ≡ None → Contains xs y → p y ≡ false
find-none p [] y none (k, lt, e) = absurd (omega arith)
find-none p (x ∷ xs) y none (zero, lt, e) = elim (cases_Bool (p x)) [ inl passes ↦ let bad = rw passes at none in cc | inr fails ↦ ap p (sym e) ∙ fails ]
find-none p (x ∷ xs) y none (suc k, lt, e) = elim (cases_Bool (p x)) [ inl passes ↦ let bad = rw passes at none in cc | inr fails ↦ find-none p xs y (rw fails at none) (k, omega arith, e) ]

pub find-some : {X : Type 0} (p : X → Bool) (xs : List X) (x : X) → find p xs ≡ Some x → p x ≡ true
find-some p [] x some = cc
find-some p (y ∷ xs) x some = elim (cases_Bool (p y)) [ inl passes ↦ let e = rw passes at some in let same : y ≡ x = cc in ap p (sym same) ∙ passes | inr fails ↦ find-some p xs x (rw fails at some) ]

-- no element's size is above that of one before it
abbrev pub descends : {X : Type 0} → (X → ℕ) → List X → Bool
descends size [] = true
descends size (x ∷ xs) = list_all (λ y. nat_le (size y) (size x)) xs && descends size xs

pub find-largest : {X : Type 0} (size : X → ℕ) (p : X → Bool) (xs : List X) (x y : X) → descends size xs ≡ true → find p xs ≡ Some x → Contains xs y → p y ≡ true → size y ≤ size x
find-largest size p [] x y order some (k, lt, e) passes = absurd (omega arith)
find-largest size p (z ∷ zs) x y order some (zero, lt, e) passes =
    let first : p z ≡ true = ap p e ∙ passes in
    let found = rw first at some in
    let same : z ≡ x = cc in
    let size_is : size y ≡ size x = ap size (sym e ∙ same) in
    omega arith
find-largest size p (z ∷ zs) x y order some (suc k, lt, e) passes =
    let parts = and_parts (list_all (λ v. nat_le (size v) (size z)) zs) (descends size zs) order in
    let there : Contains zs y = (k, omega arith, e) in
    elim (cases_Bool (p z)) [
      | inl first ↦
          let found = rw first at some in
          let same : z ≡ x = cc in
          let below = leb-true (size y) (size z) (list_all-at (λ v. nat_le (size v) (size z)) zs y parts.0 there) in
          let size_is : size z ≡ size x = ap size same in
          omega (arith, below)
      | inr fails ↦ find-largest size p zs x y parts.1 (rw fails at some) there passes
    ]
