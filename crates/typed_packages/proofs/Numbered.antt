-- Units that are numbered without gaps: each placed unit is the one by its number.
use Rattle.std.proofs.Common.{All, Bool, List, Some, [], ap, append_assoc, arith, false, inl, inr, length, length-append, map, refl, subst, suc, sym, true, zero, ℕ, ◌++◌, ◌+◌, ◌<◌, ◌==◌, ◌∙◌, ◌∷◌, ◌≡◌, ◌≤◌, ◌⊎◌}
use Rattle.std.proofs.lemmas.Bool.{eq-eqb, eqb-true}
use Rattle.std.proofs.lemmas.List.Elements.{All-cons, All-nil}
use Rattle.std.proofs.lemmas.List.{length-map, map-append}
use Rattle.std.specs.Prelude.{find, slice_get, slice_index_or}
use Rattle.op_model.specs.Levels.{numbers_from}
use Rattle.tree_promises.specs.Placed.{Placed, placed_at, placed_units, signature_of}
use Rattle.tree_promises.specs.WellTyped.{AreNumbered}
use Rattle.type_model.specs.declared.atoms.AtomDef.{AtomDef}
use Rattle.typed_needs.specs.Between.{IsUnitAt}
use Rattle.typed_packages.specs.Packages.{place_in}
use Rattle.typed_tree.specs.Units.{UnitTree, units_of}
use Rattle.typed_tree.specs.declared.package.TypedPackage.{TypedPackage}

-- ---- numbers in a list

abbrev In : ℕ → List ℕ → Type 0
In n [] = ⊥
In n (x ∷ xs) = (n ≡ x) ⊎ In n xs

contained : (xs : List ℕ) (n k : ℕ) → k < length xs → slice_index_or xs k n ≡ n → In n xs
contained [] n k lt e = absurd (omega (arith, lt))
contained (x ∷ xs) n zero lt e = inl (sym e)
contained (x ∷ xs) n (suc k) lt e = inr (contained xs n k (omega (arith, lt)) e)

-- where it stands
record Split (n : ℕ) (xs : List ℕ) : Type 0 where
  pub front : List ℕ
  pub back : List ℕ
  pub is : xs ≡ front ++ n ∷ back

split : (n : ℕ) (xs : List ℕ) → In n xs → Split n xs
split n [] h = absurd h
split n (x ∷ xs) (inl e) = record { front = []; back = xs; is = ap (λ y. y ∷ xs) (sym e) }
split n (x ∷ xs) (inr h) = let s = split n xs h in record { front = x ∷ s.front; back = s.back; is = ap (λ l. x ∷ l) s.is }

-- all others are in what is left without it
without : (m n : ℕ) (front back : List ℕ) → (m ≡ n → ⊥) → In m (front ++ n ∷ back) → In m (front ++ back)
without m n [] back differ (inl e) = absurd (differ e)
without m n [] back differ (inr h) = h
without m n (x ∷ front) back differ (inl e) = inl e
without m n (x ∷ front) back differ (inr h) = inr (without m n front back differ h)

in-behind : (m : ℕ) (front back : List ℕ) → In m front → In m (front ++ back)
in-behind m [] back h = absurd h
in-behind m (x ∷ front) back (inl e) = inl e
in-behind m (x ∷ front) back (inr h) = inr (in-behind m front back h)

-- where all numbers below one are in a list, it is at least as long
enough : (k : ℕ) (xs : List ℕ) → ((n : ℕ) → n < k → In n xs) → k ≤ length xs
enough zero xs h = omega arith
enough (suc k) xs h =
    let s = split k xs (h k (omega arith)) in
    let fewer : k ≤ length (s.front ++ s.back) =
    enough k (s.front ++ s.back) (λ n lt. without n k s.front s.back (λ e. omega (arith, e, lt)) (subst (In n) s.is (h n (omega (arith, lt))))) in
    let long : length xs ≡ length s.front + length (k ∷ s.back) = ap length s.is ∙ length-append s.front (k ∷ s.back) in
    let less = length-append s.front s.back in
    omega (arith, fewer, long, less)

module _ (k : ℕ) (front back : List ℕ) (m : ℕ) (many : length (front ++ m ∷ back) ≡ k) (all : (n : ℕ) → n < k → In n (front ++ m ∷ back)) where
  -- what is left is too short to have all of them
  short : ((n : ℕ) → n < k → In n (front ++ back)) → ⊥
  short h =
      let le = enough k (front ++ back) h in
      let long = length-append front (m ∷ back) in
      let less = length-append front back in
      omega (arith, le, long, less, many)

  -- so it is one of them
  is-below : m < k
  is-below = by (split-below m k)
    where
      split-below : (m k : ℕ) → (m < k) ⊎ (k ≤ m)
      split-below m zero = inr (omega arith)
      split-below zero (suc k) = inl (omega arith)
      split-below (suc m) (suc k) = one (split-below m k)
        where
          one : (m < k) ⊎ (k ≤ m) → (suc m < suc k) ⊎ (suc k ≤ suc m)
          one (inl lt) = inl (omega (arith, lt))
          one (inr le) = inr (omega (arith, le))

      by : (m < k) ⊎ (k ≤ m) → m < k
      by (inl lt) = lt
      by (inr le) = absurd (short (λ n lt. without n m front back (λ e. omega (arith, e, lt, le)) (all n lt)))

  -- and stands nowhere before
  is-first : In m front → ⊥
  is-first h =
      short (λ n lt. by n lt (same n m))
    where
      same : (a b : ℕ) → (a ≡ b) ⊎ (a ≡ b → ⊥)
      same zero zero = inl refl
      same zero (suc b) = inr (λ e. omega (arith, e))
      same (suc a) zero = inr (λ e. omega (arith, e))
      same (suc a) (suc b) = one (same a b)
        where
          one : (a ≡ b) ⊎ (a ≡ b → ⊥) → (suc a ≡ suc b) ⊎ (suc a ≡ suc b → ⊥)
          one (inl e) = inl (omega (arith, e))
          one (inr differ) = inr (λ e. differ (omega (arith, e)))

      by : (n : ℕ) → n < k → (n ≡ m) ⊎ (n ≡ m → ⊥) → In n (front ++ back)
      by n lt (inl e) = subst (λ x. In x (front ++ back)) (sym e) (in-behind m front back h)
      by n lt (inr differ) = without n m front back differ (all n lt)

-- ---- placed units

abbrev number_of : Placed → ℕ
number_of u = u.tree.unit.number

found-there : (u : Placed) (us vs : List Placed) → (In (number_of u) (map number_of us) → ⊥) → find (λ v. number_of v == number_of u) (us ++ u ∷ vs) ≡ Some u
found-there u [] vs first = let one = eq-eqb (number_of u) (number_of u) refl in cc
found-there u (v ∷ us) vs first = by (number_of v == number_of u) refl (found-there u us vs (λ h. first (inr h)))
  where
    by : (b : Bool) → (number_of v == number_of u) ≡ b → find (λ w. number_of w == number_of u) (us ++ u ∷ vs) ≡ Some u
        → find (λ w. number_of w == number_of u) (v ∷ (us ++ u ∷ vs)) ≡ Some u
    by true e rest = absurd (first (inl (sym (eqb-true (number_of v) (number_of u) e))))
    by false e rest = cc

numbers-there : (first k i : ℕ) → i < k → slice_get (numbers_from first k) i ≡ Some (first + i)
numbers-there first zero i lt = absurd (omega (arith, lt))
numbers-there first (suc k) zero lt = ap (λ n. Some n) (omega arith)
numbers-there first (suc k) (suc i) lt =
    let same : (first + 1) + i ≡ first + suc i = omega arith in numbers-there (first + 1) k i (omega (arith, lt)) ∙ ap (λ n. Some n) same

get-mapped : {A B : Type 0} (f : A → B) (xs : List A) (k : ℕ) (x : A) → slice_get xs k ≡ Some x → slice_get (map f xs) k ≡ Some (f x)
get-mapped f [] k x e = absurd (let bad : ⊥ = cc in bad)
get-mapped f (a ∷ xs) zero x e = (let same : a ≡ x = cc in ap (λ y. Some (f y)) same)
get-mapped f (a ∷ xs) (suc k) x e = get-mapped f xs k x e

-- what is so of each by where it stands is so of all
from-splits : {A : Type 0} (P : A → Type 0) (all front xs : List A) → all ≡ front ++ xs → ((us : List A) (x : A) (vs : List A) → all ≡ us ++ x ∷ vs → P x) → All P xs
from-splits P all front [] is each = All-nil P
from-splits P all front (x ∷ xs) is each =
    All-cons P x xs (each front x xs is) (from-splits P all (front ++ x ∷ []) xs (is ∙ sym (append_assoc front (x ∷ []) xs)) each)

module _ (env : List AtomDef) (p : TypedPackage) (covered : map (λ (u : Placed). u.tree) (placed_units p) ≡ units_of p) (numbered : AreNumbered env p) where
  numbers-are : (us : List Placed) → map number_of us ≡ map (λ (t : UnitTree). t.unit.number) (map (λ (u : Placed). u.tree) us)
  numbers-are [] = refl
  numbers-are (u ∷ us) = ap (λ l. number_of u ∷ l) (numbers-are us)

  all-numbers : map number_of (placed_units p) ≡ map (λ (t : UnitTree). t.unit.number) (units_of p)
  all-numbers = numbers-are (placed_units p) ∙ ap (λ ts. map (λ (t : UnitTree). t.unit.number) ts) covered

  long : length (map number_of (placed_units p)) ≡ p.units
  long = ap length all-numbers ∙ length-map (units_of p) (λ (t : UnitTree). t.unit.number) ∙ numbered.many

  there : (n : ℕ) → n < p.units → In n (map number_of (placed_units p))
  there n lt =
      let (k, within, is) = numbered.each n lt in
      subst (In n) (sym all-numbers) (contained (map (λ (t : UnitTree). t.unit.number) (units_of p)) n k within is)

  is-there : (us : List Placed) (u : Placed) (vs : List Placed) → placed_units p ≡ us ++ u ∷ vs → IsUnitAt (place_in p) u
  is-there us u vs is =
      let parts : map number_of (placed_units p) ≡ map number_of us ++ number_of u ∷ map number_of vs = ap (map number_of) is ∙ map-append number_of us (u ∷ vs) in
      let many : length (map number_of us ++ number_of u ∷ map number_of vs) ≡ p.units = ap length (sym parts) ∙ long in
      let all : (n : ℕ) → n < p.units → In n (map number_of us ++ number_of u ∷ map number_of vs) = (λ n lt. subst (In n) parts (there n lt)) in
      let below : number_of u < p.units = is-below p.units (map number_of us) (map number_of vs) (number_of u) many all in
      let found : placed_at p (number_of u) ≡ Some u =
      ap (find (λ (v : Placed). number_of v == number_of u)) is ∙ found-there u us vs (is-first p.units (map number_of us) (map number_of vs) (number_of u) many all) in
      let from-none : 0 + number_of u ≡ number_of u = omega arith in
      let number : slice_get (numbers_from 0 p.units) (number_of u) ≡ Some (number_of u) = numbers-there 0 p.units (number_of u) below ∙ ap (λ k. Some k) from-none in
      get-mapped (λ n. signature_of (placed_at p n)) (numbers_from 0 p.units) (number_of u) (number_of u) number ∙ ap (λ o. Some (signature_of o)) found

  pub units-are-there : All (IsUnitAt (place_in p)) (placed_units p)
  units-are-there = from-splits (IsUnitAt (place_in p)) (placed_units p) [] (placed_units p) refl is-there
