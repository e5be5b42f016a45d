-- Members of lists at places, and lists of which the members at the same places are related.
use Rattle.std.proofs.Common.{◌≡◌, ◌⊎◌, inl, inr, ℕ, zero, suc, ◌<◌, List, [], ◌∷◌, ◌++◌, length, get_or, All, Contains, Some, None, slice_get, refl, sym, ap, subst, arith}
use Rattle.std.specs.List.{AllPairs, AllZip, Any}
use Rattle.std.proofs.lemmas.List.Elements.{All-nil, All-cons, All-head, All-tail, Contains-append_right}

pub none_some : {X : Type 0} {x : X} → None ≡ Some x → ⊥
none_some e = cc

pub some_same : {X : Type 0} {x y : X} → Some x ≡ Some y → x ≡ y
some_same e = cc

pub All-slice_get : {X : Type 0} (P : X → Type 0) (xs : List X) (k : ℕ) (x : X) → All P xs → slice_get xs k ≡ Some x → P x
All-slice_get P [] k x h is = absurd (none_some is)
All-slice_get P (y ∷ ys) zero x h is = subst P (some_same is) (All-head P y ys h)
All-slice_get P (y ∷ ys) (suc k) x h is = All-slice_get P ys k x (All-tail P y ys h) is

pub All-from_slice_get : {X : Type 0} (P : X → Type 0) (xs : List X) → ((k : ℕ) (x : X) → slice_get xs k ≡ Some x → P x) → All P xs
All-from_slice_get P [] h = All-nil P
All-from_slice_get P (y ∷ ys) h = All-cons P y ys (h 0 y refl) (All-from_slice_get P ys (λ k x is. h (suc k) x is))

pub Contains-at : {X : Type 0} (xs : List X) (x : X) → Contains xs x → (k : ℕ) × (slice_get xs k ≡ Some x)
Contains-at xs x h = (h.0, by xs h.0 (λ i. h.2 i) h.1)
  where
    by : {X : Type 0} {x : X} (xs : List X) (k : ℕ) → get_or xs k x ≡ x → k < length xs → slice_get xs k ≡ Some x
    by [] k e lt = absurd (omega (arith, lt))
    by (y ∷ ys) zero e lt = ap Some e
    by (y ∷ ys) (suc k) e lt = by ys k e (omega (arith, lt))

pub at-Contains : {X : Type 0} (xs : List X) (k : ℕ) (x : X) → slice_get xs k ≡ Some x → Contains xs x
at-Contains [] k x is = absurd (none_some is)
at-Contains (y ∷ ys) zero x is = (0, omega arith, some_same is)
at-Contains (y ∷ ys) (suc k) x is = Contains-append_right (y ∷ []) ys x (at-Contains ys k x is)

-- one of which something holds
pub Any-of : {X : Type 0} (P : X → Type 0) (xs : List X) (x : X) → Contains xs x → P x → Any P xs
Any-of P xs x c h = (c.0, x, c.1, c.2, h)

pub Any-is : {X : Type 0} (P : X → Type 0) (xs : List X) → Any P xs → (x : X) × Contains xs x × P x
Any-is P xs h = (h.1, (h.0, h.2, h.3), h.4)

pub Any-more : {X : Type 0} (P : X → Type 0) (x : X) (xs : List X) → Any P (x ∷ xs) → P x ⊎ Any P xs
Any-more P x xs (zero, y, lt, at, h) = inl (subst P (sym at) h)
Any-more P x xs (suc k, y, lt, at, h) = inr (k, y, omega (arith, lt), at, h)

pub Any-first : {X : Type 0} (P : X → Type 0) (x : X) (xs : List X) → P x → Any P (x ∷ xs)
Any-first P x xs h = (0, x, omega arith, refl, h)

pub Any-later : {X : Type 0} (P : X → Type 0) (x : X) (xs : List X) → Any P xs → Any P (x ∷ xs)
Any-later P x xs (k, y, lt, at, h) = (suc k, y, omega (arith, lt), at, h)

pub Any-weaker : {X : Type 0} (P Q : X → Type 0) → ((x : X) → P x → Q x) → (xs : List X) → Any P xs → Any Q xs
Any-weaker P Q f xs (k, y, lt, at, h) = (k, y, lt, at, f y h)

module _ {X Y : Type 0} (R : X → Y → Type 0) where
  pub AllZip-at : (xs : List X) (ys : List Y) → AllZip R xs ys → (k : ℕ) (x : X) → slice_get xs k ≡ Some x → (y : Y) × (slice_get ys k ≡ Some y) × R x y
  AllZip-at [] ys h k x is = absurd (none_some is)
  AllZip-at (x ∷ xs) [] h k z is = absurd h
  AllZip-at (x ∷ xs) (y ∷ ys) h zero z is = (y, refl, subst (λ w. R w y) (some_same is) h.0)
  AllZip-at (x ∷ xs) (y ∷ ys) h (suc k) z is = AllZip-at xs ys h.1 k z is

  pub AllZip-back : (xs : List X) (ys : List Y) → AllZip R xs ys → (k : ℕ) (y : Y) → slice_get ys k ≡ Some y → (x : X) × (slice_get xs k ≡ Some x) × R x y
  AllZip-back [] [] h k y is = absurd (none_some is)
  AllZip-back [] (y ∷ ys) h k z is = absurd h
  AllZip-back (x ∷ xs) [] h k z is = absurd h
  AllZip-back (x ∷ xs) (y ∷ ys) h zero z is = (x, refl, subst (R x) (some_same is) h.0)
  AllZip-back (x ∷ xs) (y ∷ ys) h (suc k) z is = AllZip-back xs ys h.1 k z is

  pub AllZip-length : (xs : List X) (ys : List Y) → AllZip R xs ys → length ys ≡ length xs
  AllZip-length [] [] h = refl
  AllZip-length [] (y ∷ ys) h = absurd h
  AllZip-length (x ∷ xs) [] h = absurd h
  AllZip-length (x ∷ xs) (y ∷ ys) h = let e = AllZip-length xs ys h.1 in omega arith

  pub AllZip-push : (xs : List X) (ys : List Y) (x : X) (y : Y) → AllZip R xs ys → R x y → AllZip R (xs ++ x ∷ []) (ys ++ y ∷ [])
  AllZip-push [] [] x y h r = (r, tt)
  AllZip-push [] (z ∷ ys) x y h r = absurd h
  AllZip-push (z ∷ xs) [] x y h r = absurd h
  AllZip-push (z ∷ xs) (w ∷ ys) x y h r = (h.0, AllZip-push xs ys x y h.1 r)

pub AllZip-weaker : {X Y : Type 0} (R S : X → Y → Type 0) → ((x : X) (y : Y) → R x y → S x y) → (xs : List X) (ys : List Y) → AllZip R xs ys → AllZip S xs ys
AllZip-weaker R S f [] [] h = tt
AllZip-weaker R S f [] (y ∷ ys) h = absurd h
AllZip-weaker R S f (x ∷ xs) [] h = absurd h
AllZip-weaker R S f (x ∷ xs) (y ∷ ys) h = (f x y h.0, AllZip-weaker R S f xs ys h.1)

pub Any-none : {X : Type 0} (P : X → Type 0) → Any P [] → ⊥
Any-none P h = absurd (omega (arith, h.2))

pub slice_get-within : {X : Type 0} (xs : List X) (k : ℕ) (x d : X) → slice_get xs k ≡ Some x → (k < length xs) × (get_or xs k d ≡ x)
slice_get-within [] k x d is = absurd (none_some is)
slice_get-within (y ∷ ys) zero x d is = (omega arith, some_same is)
slice_get-within (y ∷ ys) (suc k) x d is = let r = slice_get-within ys k x d is in (omega (arith, r.0), r.1)

pub AllPairs-at : {X : Type 0} (R : X → X → Type 0) (xs : List X) → AllPairs R xs → (i j : ℕ) (x y : X) → i < j → slice_get xs i ≡ Some x → slice_get xs j ≡ Some y → R x y
AllPairs-at R xs h i j x y lt p q =
    let f = slice_get-within xs i x x p in
    let s = slice_get-within xs j y x q in
    subst (λ z. R z y) f.1 (subst (R (get_or xs i x)) s.1 (h i j x lt s.0))
