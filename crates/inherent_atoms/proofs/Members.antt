-- Members of lists, by cases.
use Rattle.std.proofs.Common.{◌≡◌, ◌≢◌, ◌↔◌, ◌⊎◌, ◌<◌, ◌++◌, ℕ, zero, suc, List, [], ◌∷◌, length, map, get_or, Some, refl, sym, subst, inl, inr, arith}
use Rattle.std.specs.Prelude.{⊤, AllPairs, Any, Contains, flat_map, slice_get}
use Rattle.typed_tree.specs.Listed.{Listed, joined, members}

abbrev pub Has : {X : Type 0} → (X → Type 0) → List X → Type 0
Has P [] = ⊥
Has P (x ∷ xs) = P x ⊎ Has P xs

-- ---- by numbers

pub any-has : {X : Type 0} (P : X → Type 0) (xs : List X) (k : ℕ) (x : X) → k < length xs → get_or xs k x ≡ x → P x → Has P xs
any-has P [] k x lt is p = absurd (omega (arith, lt))
any-has P (y ∷ ys) zero x lt is p = inl (subst P (sym is) p)
any-has P (y ∷ ys) (suc k) x lt is p = inr (any-has P ys k x (omega (arith, lt)) is p)

pub has-any : {X : Type 0} (P : X → Type 0) (xs : List X) → Has P xs → Any P xs
has-any P [] h = absurd h
has-any P (x ∷ xs) (inl p) = (0, x, omega arith, refl, p)
has-any P (x ∷ xs) (inr h) = let (k, y, lt, is, p) = has-any P xs h in (suc k, y, omega (arith, lt), is, p)

pub of-any : {X : Type 0} (P : X → Type 0) (xs : List X) → Any P xs → Has P xs
of-any P xs (k, x, lt, is, p) = any-has P xs k x lt is p

abbrev pub HasOne : {X : Type 0} → List X → X → Type 0
HasOne xs a = Has (λ b. b ≡ a) xs

pub of-contains : {X : Type 0} (xs : List X) (a : X) → Contains xs a → HasOne xs a
of-contains xs a (k, lt, is) = any-has (λ b. b ≡ a) xs k a lt is refl

pub has-contains : {X : Type 0} (xs : List X) (a : X) → HasOne xs a → Contains xs a
has-contains [] a h = absurd h
has-contains (x ∷ xs) a (inl e) = (0, omega arith, e)
has-contains (x ∷ xs) a (inr h) = let (k, lt, is) = has-contains xs a h in (suc k, omega (arith, lt), is)

pub has-get : {X : Type 0} (P : X → Type 0) (xs : List X) → Has P xs → (k : ℕ) × (x : X) × (slice_get xs k ≡ Some x) × P x
has-get P [] h = absurd h
has-get P (x ∷ xs) (inl p) = (0, x, refl, p)
has-get P (x ∷ xs) (inr h) = let (k, y, at, p) = has-get P xs h in (suc k, y, at, p)

pub get-has : {X : Type 0} (P : X → Type 0) (xs : List X) (k : ℕ) (x : X) → slice_get xs k ≡ Some x → P x → Has P xs
get-has P [] k x at p = absurd (let bad : ⊥ = cc in bad)
get-has P (y ∷ ys) zero x at p = inl (subst P (sym (same-some at)) p)
  where
    same-some : Some y ≡ Some x → y ≡ x
    same-some e = cc
get-has P (y ∷ ys) (suc k) x at p = inr (get-has P ys k x at p)

-- ---- lists put together

pub has-all : {X : Type 0} {P Q : X → Type 0} (xs : List X) → ((x : X) → P x → Q x) → Has P xs → Has Q xs
has-all [] go h = absurd h
has-all (x ∷ xs) go (inl p) = inl (go x p)
has-all (x ∷ xs) go (inr h) = inr (has-all xs go h)

pub has-either : {X : Type 0} {P Q R : X → Type 0} (xs : List X) → ((x : X) → P x → Q x ⊎ R x) → Has P xs → Has Q xs ⊎ Has R xs
has-either [] go h = absurd h
has-either (x ∷ xs) go (inl p) = elim (go x p) [ inl q ↦ inl (inl q) | inr r ↦ inr (inl r) ]
has-either (x ∷ xs) go (inr h) = elim (has-either xs go h) [ inl q ↦ inl (inr q) | inr r ↦ inr (inr r) ]

pub has-front : {X : Type 0} (P : X → Type 0) (xs ys : List X) → Has P xs → Has P (xs ++ ys)
has-front P [] ys h = absurd h
has-front P (x ∷ xs) ys (inl p) = inl p
has-front P (x ∷ xs) ys (inr h) = inr (has-front P xs ys h)

pub has-back : {X : Type 0} (P : X → Type 0) (xs ys : List X) → Has P ys → Has P (xs ++ ys)
has-back P [] ys h = h
has-back P (x ∷ xs) ys h = inr (has-back P xs ys h)

pub has-parts : {X : Type 0} (P : X → Type 0) (xs ys : List X) → Has P (xs ++ ys) → Has P xs ⊎ Has P ys
has-parts P [] ys h = inr h
has-parts P (x ∷ xs) ys (inl p) = inl (inl p)
has-parts P (x ∷ xs) ys (inr h) = elim (has-parts P xs ys h) [ inl q ↦ inl (inr q) | inr r ↦ inr r ]

-- a member for which it holds
pub has-member : {X : Type 0} (P : X → Type 0) (xs : List X) → Has P xs → (x : X) × HasOne xs x × P x
has-member P [] h = absurd h
has-member P (x ∷ xs) (inl p) = (x, inl refl, p)
has-member P (x ∷ xs) (inr h) = let (y, m, p) = has-member P xs h in (y, inr m, p)

pub member-has : {X : Type 0} (P : X → Type 0) (xs : List X) (x : X) → HasOne xs x → P x → Has P xs
member-has P xs x h p = has-all xs (λ y e. subst P (sym e) p) h

-- of a list of lists
pub has-flat : {X Y : Type 0} (P : Y → Type 0) (f : X → List Y) (xs : List X) → Has P (flat_map f xs) ↔ Has (λ x. Has P (f x)) xs
has-flat P f xs = (to xs, from xs)
  where
    to : (xs : List _) → Has P (flat_map f xs) → Has (λ x. Has P (f x)) xs
    to [] h = absurd h
    to (x ∷ xs) h = elim (has-parts P (f x) (flat_map f xs) h) [ inl q ↦ inl q | inr r ↦ inr (to xs r) ]

    from : (xs : List _) → Has (λ x. Has P (f x)) xs → Has P (flat_map f xs)
    from [] h = absurd h
    from (x ∷ xs) (inl p) = has-front P (f x) (flat_map f xs) p
    from (x ∷ xs) (inr h) = has-back P (f x) (flat_map f xs) (from xs h)

-- of what is listed
pub has-joined : {X Y : Type 0} (P : Y → Type 0) (f : X → Listed Y) (xs : List X) → Has P (members (joined (map f xs))) ↔ Has (λ x. Has P (members (f x))) xs
has-joined P f xs = (to xs, from xs)
  where
    to : (xs : List _) → Has P (members (joined (map f xs))) → Has (λ x. Has P (members (f x))) xs
    to [] h = absurd h
    to (x ∷ xs) h = elim (has-parts P (members (f x)) (members (joined (map f xs))) h) [ inl q ↦ inl q | inr r ↦ inr (to xs r) ]

    from : (xs : List _) → Has (λ x. Has P (members (f x))) xs → Has P (members (joined (map f xs)))
    from [] h = absurd h
    from (x ∷ xs) (inl p) = has-front P (members (f x)) (members (joined (map f xs))) p
    from (x ∷ xs) (inr h) = has-back P (members (f x)) (members (joined (map f xs))) (from xs h)

-- ---- no two equal ones

abbrev pub Distinct : List ℕ → Type 0
Distinct [] = ⊤
Distinct (x ∷ xs) = (¬ (HasOne xs x)) × Distinct xs

pub distinct-more : (xs : List ℕ) (a : ℕ) → Distinct xs → ¬ (HasOne xs a) → Distinct (xs ++ a ∷ [])
distinct-more [] a d not = ((λ h. h), tt)
distinct-more (x ∷ xs) a (other, d) not =
    ((λ h. elim (has-parts (λ b. b ≡ x) xs (a ∷ []) h) [ inl q ↦ other q | inr r ↦ elim r [ inl e ↦ not (inl (sym e)) | inr z ↦ z ] ]), distinct-more xs a d (λ h. not (inr h)))

pub distinct-pairs : (xs : List ℕ) → Distinct xs → AllPairs ◌≢◌ xs
distinct-pairs [] d i j z lt le = absurd (omega (arith, le))
distinct-pairs (x ∷ xs) (other, d) zero zero z lt le = absurd (omega (arith, lt))
distinct-pairs (x ∷ xs) (other, d) zero (suc j) z lt le = λ e. other (at xs j z (omega (arith, le)) (sym e))
  where
    at : (xs : List ℕ) (j z : ℕ) → j < length xs → get_or xs j z ≡ x → HasOne xs x
    at [] j z le e = absurd (omega (arith, le))
    at (y ∷ ys) zero z le e = inl e
    at (y ∷ ys) (suc j) z le e = inr (at ys j z (omega (arith, le)) e)
distinct-pairs (x ∷ xs) (other, d) (suc i) zero z lt le = absurd (omega (arith, lt))
distinct-pairs (x ∷ xs) (other, d) (suc i) (suc j) z lt le = distinct-pairs xs d i j z (omega (arith, lt)) (omega (arith, le))
