-- Members of lists, by cases.
use Rattle.std.proofs.Common.{◌≡◌, ◌⊎◌, ◌<◌, ◌++◌, ℕ, zero, suc, List, [], ◌∷◌, length, map, get_or, refl, subst, inl, inr, arith}
use Rattle.std.specs.Prelude.{Any}
use Rattle.std.specs.List.{AllZip}

abbrev pub Has : {X : Type 0} → (X → Type 0) → List X → Type 0
Has P [] = ⊥
Has P (x ∷ xs) = P x ⊎ Has P xs

any-has : {X : Type 0} (P : X → Type 0) (xs : List X) (k : ℕ) (x : X) → k < length xs → get_or xs k x ≡ x → P x → Has P xs
any-has P [] k x lt is p = absurd (omega (arith, lt))
any-has P (y ∷ ys) zero x lt is p = inl (subst P (let q : x ≡ y = cc in q) p)
any-has P (y ∷ ys) (suc k) x lt is p = inr (any-has P ys k x (omega (arith, lt)) is p)

pub has-any : {X : Type 0} (P : X → Type 0) (xs : List X) → Has P xs → Any P xs
has-any P [] h = absurd h
has-any P (x ∷ xs) (inl p) = (0, x, omega arith, refl, p)
has-any P (x ∷ xs) (inr h) = let (k, y, lt, is, p) = has-any P xs h in (suc k, y, omega (arith, lt), is, p)

pub of-any : {X : Type 0} (P : X → Type 0) (xs : List X) → Any P xs → Has P xs
of-any P xs (k, x, lt, is, p) = any-has P xs k x lt is p

-- ---- lists put together

has-front : {X : Type 0} (P : X → Type 0) (xs ys : List X) → Has P xs → Has P (xs ++ ys)
has-front P [] ys h = absurd h
has-front P (x ∷ xs) ys (inl p) = inl p
has-front P (x ∷ xs) ys (inr h) = inr (has-front P xs ys h)

has-back : {X : Type 0} (P : X → Type 0) (xs ys : List X) → Has P ys → Has P (xs ++ ys)
has-back P [] ys h = h
has-back P (x ∷ xs) ys h = inr (has-back P xs ys h)

has-parts : {X : Type 0} (P : X → Type 0) (xs ys : List X) → Has P (xs ++ ys) → Has P xs ⊎ Has P ys
has-parts P [] ys h = inr h
has-parts P (x ∷ xs) ys (inl p) = inl (inl p)
has-parts P (x ∷ xs) ys (inr h) = elim (has-parts P xs ys h) [ inl q ↦ inl (inr q) | inr r ↦ inr r ]

pub any-append : {X : Type 0} (P : X → Type 0) (xs ys : List X) → Any P xs ⊎ Any P ys → Any P (xs ++ ys)
any-append P xs ys (inl h) = has-any P (xs ++ ys) (has-front P xs ys (of-any P xs h))
any-append P xs ys (inr h) = has-any P (xs ++ ys) (has-back P xs ys (of-any P ys h))

pub any-parts : {X : Type 0} (P : X → Type 0) (xs ys : List X) → Any P (xs ++ ys) → Any P xs ⊎ Any P ys
any-parts P xs ys h = elim (has-parts P xs ys (of-any P (xs ++ ys) h)) [ inl q ↦ inl (has-any P xs q) | inr r ↦ inr (has-any P ys r) ]

pub any-one : {X : Type 0} (P : X → Type 0) (x : X) → P x → Any P (x ∷ [])
any-one P x p = has-any P (x ∷ []) (inl p)

pub one-any : {X : Type 0} (P : X → Type 0) (x : X) → Any P (x ∷ []) → P x
one-any P x h = by (of-any P (x ∷ []) h)
  where
    by : P x ⊎ ⊥ → P x
    by (inl p) = p
    by (inr none) = absurd none

pub any-none : {X : Type 0} (P : X → Type 0) → Any P [] → ⊥
any-none P h = of-any P [] h

-- ---- of what is made of each

has-mapped : {X Y : Type 0} (P : Y → Type 0) (f : X → Y) (xs : List X) → Has (λ x. P (f x)) xs → Has P (map f xs)
has-mapped P f [] h = absurd h
has-mapped P f (x ∷ xs) (inl p) = inl p
has-mapped P f (x ∷ xs) (inr h) = inr (has-mapped P f xs h)

mapped-has : {X Y : Type 0} (P : Y → Type 0) (f : X → Y) (xs : List X) → Has P (map f xs) → Has (λ x. P (f x)) xs
mapped-has P f [] h = absurd h
mapped-has P f (x ∷ xs) (inl p) = inl p
mapped-has P f (x ∷ xs) (inr h) = inr (mapped-has P f xs h)

pub any-mapped : {X Y : Type 0} (P : Y → Type 0) (f : X → Y) (xs : List X) → Any (λ x. P (f x)) xs → Any P (map f xs)
any-mapped P f xs h = has-any P (map f xs) (has-mapped P f xs (of-any (λ x. P (f x)) xs h))

pub mapped-any : {X Y : Type 0} (P : Y → Type 0) (f : X → Y) (xs : List X) → Any P (map f xs) → Any (λ x. P (f x)) xs
mapped-any P f xs h = has-any (λ x. P (f x)) xs (mapped-has P f xs (of-any P (map f xs) h))

-- ---- those for which it holds

has-so : {X : Type 0} (P Q : X → Type 0) (xs : List X) → ((x : X) → P x → Q x) → Has P xs → Has Q xs
has-so P Q [] go h = absurd h
has-so P Q (x ∷ xs) go (inl p) = inl (go x p)
has-so P Q (x ∷ xs) go (inr h) = inr (has-so P Q xs go h)

pub any-so : {X : Type 0} (P Q : X → Type 0) (xs : List X) → ((x : X) → P x → Q x) → Any P xs → Any Q xs
any-so P Q xs go h = has-any Q xs (has-so P Q xs go (of-any P xs h))

-- and of those that stand beside them
pub any-zip : {X Y : Type 0} (R : X → Y → Type 0) (P : X → Type 0) (Q : Y → Type 0) → ((x : X) (y : Y) → R x y → P x → Q y) → (xs : List X) (ys : List Y) → AllZip R xs ys → Any P xs → Any Q ys
any-zip R P Q go xs ys all h = has-any Q ys (by xs ys all (of-any P xs h))
  where
    by : (xs : List _) (ys : List _) → AllZip R xs ys → Has P xs → Has Q ys
    by [] ys all h = absurd h
    by (x ∷ xs) [] all h = absurd all
    by (x ∷ xs) (y ∷ ys) all (inl p) = inl (go x y all.0 p)
    by (x ∷ xs) (y ∷ ys) all (inr h) = inr (by xs ys all.1 h)

pub any-zip-back : {X Y : Type 0} (R : X → Y → Type 0) (P : X → Type 0) (Q : Y → Type 0) → ((x : X) (y : Y) → R x y → Q y → P x) → (xs : List X) (ys : List Y) → AllZip R xs ys → Any Q ys → Any P xs
any-zip-back R P Q go xs ys all h = has-any P xs (by xs ys all (of-any Q ys h))
  where
    by : (xs : List _) (ys : List _) → AllZip R xs ys → Has Q ys → Has P xs
    by xs [] all h = absurd h
    by [] (y ∷ ys) all h = absurd all
    by (x ∷ xs) (y ∷ ys) all (inl q) = inl (go x y all.0 q)
    by (x ∷ xs) (y ∷ ys) all (inr h) = inr (by xs ys all.1 h)
