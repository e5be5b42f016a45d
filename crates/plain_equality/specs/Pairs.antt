-- Pairs of values that are held to be equal.
use Rattle.std.specs.Prelude.{⊤, ◌≡◌, ◌≢◌, ◌++◌, ℕ, Bool, true, false, List, [], ◌∷◌, Option, Some, None, Contains, All, is_some, slice_get}
use Rattle.std.specs.List.{list_all}
use Rattle.bal_base.specs.declared.text.Text.{Text}
use Rattle.value_model.specs.declared.value.Value.{Value}
use Rattle.value_model.specs.declared.value.Value.TheVariants.{Struct}
use Rattle.value_model.specs.Heap.{Heap, Members, Items, Entries, entry_at}
use Rattle.op_model.specs.Equality.{Step, ToPlace, ToKey, AreEqual, face_of, member_at}

-- two structures are a pair that is held
abbrev pub IsPair : List (ℕ × ℕ) → Value → Value → Type 0
IsPair held (Struct n) (Struct m) = Contains held (n, m)
IsPair held _ _ = ⊤

-- the two look the same, and two structures are a pair that is held
abbrev pub IsKnown : Heap → List (ℕ × ℕ) → Value → Value → Type 0
IsKnown h held v w = (face_of h v ≡ face_of h w) × IsPair held v w

-- all that was held still is, at its place, and what is held behind it is so
abbrev pub HoldsMore : List (ℕ × ℕ) → (ℕ → ℕ → Type 0) → List (ℕ × ℕ) → Type 0
HoldsMore old P new = (more : List (ℕ × ℕ)) × (new ≡ old ++ more) × All (λ p. P p.0 p.1) more

-- whether two values look the same, and then what is held
abbrev pub IsHeld : Heap → Value → Value → List (ℕ × ℕ) → List (ℕ × ℕ) → Bool → Type 0
IsHeld h v w old new true = IsKnown h new v w × HoldsMore old (λ n m. (v ≡ Struct n) × (w ≡ Struct m)) new
IsHeld h v w old new false = ¬ (face_of h v ≡ face_of h w)

-- whether all these pairs look the same, and then what is held
abbrev pub AreHeld : Heap → List (Value × Value) → List (ℕ × ℕ) → List (ℕ × ℕ) → Bool → Type 0
AreHeld h pairs old new true = All (λ p. IsKnown h new p.0 p.1) pairs × HoldsMore old (λ n m. Contains pairs (Struct n, Struct m)) new
AreHeld h pairs old new false = (p : Value × Value) × Contains pairs p × ¬ (face_of h p.0 ≡ face_of h p.1)

-- ---- members side by side

abbrev pub member_in : Step → Members → Option Value
member_in (ToPlace k) (Items vs) = slice_get vs k
member_in (ToPlace k) (Entries es) = None
member_in (ToKey key) (Items vs) = None
member_in (ToKey key) (Entries es) = entry_at es key

-- both are a pair of these, or neither is there
abbrev pub AreSides : List (Value × Value) → Option Value → Option Value → Type 0
AreSides pairs (Some v) (Some w) = Contains pairs (v, w)
AreSides pairs (Some v) None = ⊥
AreSides pairs None (Some w) = ⊥
AreSides pairs None None = ⊤

-- each of the pairs is that of the members at a step, and each step leads to a pair or to nothing on both sides
abbrev pub PairsMembers : List (Value × Value) → Members → Members → Type 0
PairsMembers pairs first second =
    ((step : Step) → AreSides pairs (member_in step first) (member_in step second))
    × All (λ p. (step : Step) × (member_in step first ≡ Some p.0) × (member_in step second ≡ Some p.1)) pairs

-- the pairs of the members; or a step leads to a member on one side alone
abbrev pub AreMemberPairs : Members → Members → Option (List (Value × Value)) → Type 0
AreMemberPairs first second (Some pairs) = PairsMembers pairs first second
AreMemberPairs first second None = (step : Step) × (is_some (member_in step first) ≢ is_some (member_in step second))

-- a pair of both, where both are there
abbrev pub both_of : Option Value → Option Value → List (Value × Value)
both_of (Some v) (Some w) = (v, w) ∷ []
both_of (Some v) None = []
both_of None w = []

-- each key of the first entries is one of the second
abbrev pub have_keys : List (Text × Value) → List (Text × Value) → Bool
have_keys es ds = list_all (λ e. is_some (entry_at ds e.0)) es

-- ---- members of structures

-- the same of the members of two structures in the heap
abbrev pub AreStructurePairs : Heap → ℕ → ℕ → Option (List (Value × Value)) → Type 0
AreStructurePairs h n m (Some pairs) =
    ((step : Step) → AreSides pairs (member_at h step (Struct n)) (member_at h step (Struct m)))
    × All (λ p. (step : Step) × (member_at h step (Struct n) ≡ Some p.0) × (member_at h step (Struct m) ≡ Some p.1)) pairs
AreStructurePairs h n m None = (step : Step) × (is_some (member_at h step (Struct n)) ≢ is_some (member_at h step (Struct m)))

-- both are known to look the same, or neither is there
abbrev pub AreKnownSides : Heap → List (ℕ × ℕ) → Option Value → Option Value → Type 0
AreKnownSides h held (Some v) (Some w) = IsKnown h held v w
AreKnownSides h held (Some v) None = ⊥
AreKnownSides h held None (Some w) = ⊥
AreKnownSides h held None None = ⊤

-- the members of two structures are known to look the same, step by step
abbrev pub AreMembersKnown : Heap → List (ℕ × ℕ) → ℕ → ℕ → Type 0
AreMembersKnown h held n m = (step : Step) → AreKnownSides h held (member_at h step (Struct n)) (member_at h step (Struct m))

-- whether the members of two structures look the same, and then what is held
abbrev pub AreMembersHeld : Heap → ℕ → ℕ → List (ℕ × ℕ) → List (ℕ × ℕ) → Bool → Type 0
AreMembersHeld h n m old new true =
    AreMembersKnown h new n m
    × HoldsMore old (λ a b. (face_of h (Struct a) ≡ face_of h (Struct b)) × (AreEqual h (Struct n) (Struct m) → AreEqual h (Struct a) (Struct b))) new
AreMembersHeld h n m old new false = ¬ (AreEqual h (Struct n) (Struct m))
