-- Items by their places, and what is asked there.
use Rattle.std.proofs.Common.{◌≡◌, ◌⊎◌, inl, inr, ⊎_elim, ℕ, zero, suc, ◌<◌, ◌≤◌, List, [], ◌∷◌, ◌++◌, map, take, length, get_or, All, Contains, Some, None, slice_get, refl, sym, ap, subst, ◌∙◌, arith}
use Rattle.std.proofs.lemmas.Option.{slice_get_within, slice_get-get_or, get_or_from_slice_get}
use Rattle.type_diagrams.specs.Conditions.{Condition}
use Rattle.type_diagrams.specs.Tables.{Table, IsDiagram}
use Rattle.type_diagrams.specs.Whole.{Keeps, Gives}
use Rattle.type_diagrams.proofs.Shapes.{gives-keeps}
use Rattle.empty_product.specs.Lists.{AreAsked}

pub some_same : {X : Type 0} (a b : X) → Some a ≡ Some b → a ≡ b
some_same a b e = cc

pub none_some : {X : Type 0} (a : X) → None ≡ Some a → ⊥
none_some a e = cc

module _ {X : Type 0} where
  pub at_push : (xs : List X) (y : X) (k : ℕ) (x : X) → slice_get (xs ++ y ∷ []) k ≡ Some x → (slice_get xs k ≡ Some x) ⊎ ((k ≡ length xs) × (y ≡ x))
  at_push [] y zero x h = inr (refl, some_same y x h)
  at_push [] y (suc k) x h = absurd (none_some x h)
  at_push (z ∷ xs) y zero x h = inl h
  at_push (z ∷ xs) y (suc k) x h = ⊎_elim (λ a. inl a) (λ (b : (k ≡ length xs) × (y ≡ x)). inr (ap suc b.0, b.1)) (at_push xs y k x h)

  pub at_append_left : (xs ys : List X) (k : ℕ) (x : X) → slice_get xs k ≡ Some x → slice_get (xs ++ ys) k ≡ Some x
  at_append_left [] ys k x h = absurd (none_some x h)
  at_append_left (z ∷ xs) ys zero x h = h
  at_append_left (z ∷ xs) ys (suc k) x h = at_append_left xs ys k x h

  pub at_append : (xs ys : List X) (k : ℕ) (x : X) → slice_get (xs ++ ys) k ≡ Some x → (slice_get xs k ≡ Some x) ⊎ ((length xs ≤ k) × Contains ys x)
  at_append [] ys k x h = inr (omega arith, at_contains ys k x h)
    where
      at_contains : (zs : List X) (i : ℕ) (z : X) → slice_get zs i ≡ Some z → Contains zs z
      at_contains zs i z g = (i, slice_get_within zs i z g, get_or_from_slice_get zs i z z g)
  at_append (z ∷ xs) ys zero x h = inl h
  at_append (z ∷ xs) ys (suc k) x h = ⊎_elim (λ a. inl a) (λ (b : (length xs ≤ k) × Contains ys x). inr (omega (arith, b.0), b.1)) (at_append xs ys k x h)

  pub at-Contains : (zs : List X) (i : ℕ) (z : X) → slice_get zs i ≡ Some z → Contains zs z
  at-Contains zs i z g = (i, slice_get_within zs i z g, get_or_from_slice_get zs i z z g)

  -- an element is at a place
  pub Contains-at : (xs : List X) (x : X) → Contains xs x → (k : ℕ) × (slice_get xs k ≡ Some x)
  Contains-at xs x c = (c.0, slice_get-get_or xs c.0 x c.1 ∙ ap Some c.2)

  -- an element of the second list is behind the first
  pub Contains-behind : (xs ys : List X) (x : X) → Contains ys x → (k : ℕ) × (length xs ≤ k) × (slice_get (xs ++ ys) k ≡ Some x)
  Contains-behind [] ys x c = let f = Contains-at ys x c in (f.0, omega arith, f.1)
  Contains-behind (z ∷ xs) ys x c = let f = Contains-behind xs ys x c in let le = f.1 in (suc f.0, omega (arith, le), f.2)

  pub at_take : (xs : List X) (n k : ℕ) (x : X) → slice_get (take n xs) k ≡ Some x → (slice_get xs k ≡ Some x) × (k < n)
  at_take [] zero k x h = absurd (none_some x h)
  at_take [] (suc n) k x h = absurd (none_some x h)
  at_take (z ∷ xs) zero k x h = absurd (none_some x h)
  at_take (z ∷ xs) (suc n) zero x h = (h, omega arith)
  at_take (z ∷ xs) (suc n) (suc k) x h = let f = at_take xs n k x h in let lt = f.1 in (f.0, omega (arith, lt))

  pub at_taken : (xs : List X) (n k : ℕ) (x : X) → k < n → slice_get xs k ≡ Some x → slice_get (take n xs) k ≡ Some x
  at_taken [] n k x lt h = absurd (none_some x h)
  at_taken (z ∷ xs) zero k x lt h = absurd (omega (arith, lt))
  at_taken (z ∷ xs) (suc n) zero x lt h = h
  at_taken (z ∷ xs) (suc n) (suc k) x lt h = at_taken xs n k x (omega (arith, lt)) h

  pub at_place : (xs : List X) (k : ℕ) → k < length xs → (x : X) × (slice_get xs k ≡ Some x)
  at_place [] k lt = absurd (omega (arith, lt))
  at_place (x ∷ xs) zero lt = (x, refl)
  at_place (x ∷ xs) (suc k) lt = at_place xs k (omega (arith, lt))

  pub at-map : {Y : Type 0} (f : X → Y) (xs : List X) (k : ℕ) (x : X) → slice_get xs k ≡ Some x → slice_get (map f xs) k ≡ Some (f x)
  at-map f [] k x h = absurd (none_some x h)
  at-map f (z ∷ xs) zero x h = ap Some (ap f (some_same z x h))
  at-map f (z ∷ xs) (suc k) x h = at-map f xs k x h

  pub at_mapped : {Y : Type 0} (f : X → Y) (xs : List X) (k : ℕ) (y : Y) → slice_get (map f xs) k ≡ Some y → (x : X) × (slice_get xs k ≡ Some x) × (f x ≡ y)
  at_mapped f [] k y h = absurd (none_some y h)
  at_mapped f (z ∷ xs) zero y h = (z, refl, some_same (f z) y h)
  at_mapped f (z ∷ xs) (suc k) y h = at_mapped f xs k y h

-- ---- what is asked at the first places

pub AreAsked-none : (t : Table) (base : ℕ → Condition) → AreAsked t base []
AreAsked-none t base k q h = absurd (none_some q h)

pub AreAsked-keeps : (old new : Table) (base : ℕ → Condition) (qs : List ℕ) → Keeps old new → AreAsked old base qs → AreAsked new base qs
AreAsked-keeps old new base qs keeps h k q is = gives-keeps old new (base k) q keeps (h k q is)

pub AreAsked-push : (old new : Table) (base : ℕ → Condition) (qs : List ℕ) (n q : ℕ) → length qs ≡ n → Keeps old new → AreAsked old base qs → Gives new (base n) q → AreAsked new base (qs ++ q ∷ [])
AreAsked-push old new base qs n q long keeps h g k r is =
    ⊎_elim (λ (a : slice_get qs k ≡ Some r). gives-keeps old new (base k) r keeps (h k r a))
    (λ (b : (k ≡ length qs) × (q ≡ r)). subst (λ i. Gives new (base i) r) (sym (b.0 ∙ long)) (subst (Gives new (base n)) b.1 g))
    (at_push qs q k r is)

pub AreAsked-take : (t : Table) (base : ℕ → Condition) (qs : List ℕ) (n : ℕ) → AreAsked t base qs → AreAsked t base (take n qs)
AreAsked-take t base qs n h k q is = h k q (at_take qs n k q is).0

pub AreAsked-diagrams : (t : Table) (base : ℕ → Condition) (qs : List ℕ) → AreAsked t base qs → All (IsDiagram t) qs
AreAsked-diagrams t base qs h k d lt = (h k (get_or qs k d) (slice_get-get_or qs k d lt)).diagram
