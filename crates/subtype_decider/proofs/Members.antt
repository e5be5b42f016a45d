-- Members of lists: of one that is mapped, cut or written to.
pub use Rattle.empty_arrow.proofs.SomeOf.{Any-Contains, Contains-Any, Any-here, Any-later, Any-cases, Any-left, Any-right, Any-append_cases}
use Rattle.std.proofs.Common.{◌≡◌, ◌≢◌, ℕ, zero, suc, ◌<◌, ◌≤◌, ◌+◌, ◌-◌, List, [], ◌∷◌, ◌++◌, map, length, take, get_or, set, Some, slice_get, All, AllPairs, Contains, ⊎_elim, ◌⊎◌, inl, inr, refl, sym, subst, ◌∙◌, ap, length-append, arith}
use Rattle.std.proofs.Math.ListN.{get_or-map, length-map, length-set, get_or-append}
use Rattle.std.proofs.Math.Seq.{get_or-append-add, get_or-append_right}
use Rattle.std.specs.List.{swap_remove}
use Rattle.std.proofs.lemmas.Bool.{cases_order}
use Rattle.std.proofs.lemmas.Option.{slice_get_within, slice_get-get_or}
use Rattle.std.proofs.lemmas.List.{get_or-take, get_or-set_same, get_or-set_other, length-take-le}
use Rattle.std.proofs.lemmas.List.Elements.{All-contains, Contains-get_or, Contains-append_left, Contains-append_right}

module _ {X : Type 0} where
  pub any_default : (xs : List X) (k : ℕ) (d e : X) → k < length xs → get_or xs k d ≡ get_or xs k e
  any_default [] k d e lt = absurd (omega (arith, lt))
  any_default (x ∷ xs) zero d e lt = refl
  any_default (x ∷ xs) (suc k) d e lt = any_default xs k d e (omega (arith, lt))

  -- what a member is, at its place
  pub Contains-at : (xs : List X) (k : ℕ) (x : X) → slice_get xs k ≡ Some x → Contains xs x
  Contains-at xs k x e =
      let lt = slice_get_within xs k x e in
      let is : Some (get_or xs k x) ≡ Some x = sym (slice_get-get_or xs k x lt) ∙ e in
      let same : get_or xs k x ≡ x = cc in
      (k, lt, same)

  pub All-from_Contains : (P : X → Type 0) (xs : List X) → ((x : X) → Contains xs x → P x) → All P xs
  All-from_Contains P xs f k d lt = f (get_or xs k d) (Contains-get_or xs k d lt)

  -- a list that was cut
  pub take-Contains : (n : ℕ) (xs : List X) (x : X) → n ≤ length xs → Contains (take n xs) x → Contains xs x
  take-Contains n xs x le c =
      let lt : c.0 < n = omega (arith, c.1, length-take-le n xs le) in
      (c.0, omega (arith, lt, le), sym (get_or-take n xs c.0 x lt) ∙ c.2)

  -- one is written at a place
  pub set-Contains : (xs : List X) (i : ℕ) (y x : X) → Contains (set xs i y) x → Contains xs x ⊎ (x ≡ y)
  set-Contains xs i y x c =
      ⊎_elim
      (λ (is : c.0 ≡ i). inr (sym c.2 ∙ ap (λ j. get_or (set xs i y) j x) is ∙ get_or-set_same xs i y x (omega (arith, is, c.1, length-set xs i y))))
      (λ (o : (c.0 < i) ⊎ (i < c.0)).
      let ne : c.0 ≢ i = ⊎_elim (λ (a : c.0 < i). omega (arith, a)) (λ (b : i < c.0). omega (arith, b)) o in
      inl (c.0, omega (arith, c.1, length-set xs i y), sym (get_or-set_other xs i c.0 y x ne) ∙ c.2))
      (cases_order c.0 i)

  pub Contains-set : (xs : List X) (i : ℕ) (y x : X) → (get_or xs i x ≢ x) → Contains xs x → Contains (set xs i y) x
  Contains-set xs i y x ne c =
      let off : c.0 ≢ i = λ is. ne (sym (ap (λ j. get_or xs j x) is) ∙ c.2) in
      (c.0, omega (arith, c.1, length-set xs i y), get_or-set_other xs i c.0 y x off ∙ c.2)

  pub set-itself : (xs : List X) (i : ℕ) (y : X) → i < length xs → Contains (set xs i y) y
  set-itself xs i y lt = (i, omega (arith, lt, length-set xs i y), get_or-set_same xs i y y lt)

  -- the last goes to the place of one that is taken away
  pub swap_remove-Contains : (xs : List X) (i : ℕ) (d x : X) → Contains (swap_remove xs i d) x → Contains xs x
  swap_remove-Contains xs i d x c =
      let last = get_or xs (length xs - 1) d in
      let within : length xs - 1 ≤ length (set xs i last) = omega (arith, length-set xs i last) in
      let from = take-Contains (length xs - 1) (set xs i last) x within c in
      let some : 0 < length xs = omega (arith, from.1, length-set xs i last) in
      ⊎_elim (λ (a : Contains xs x). a) (λ (b : x ≡ last). subst (Contains xs) (sym b) (Contains-get_or xs (length xs - 1) d (omega (arith, some)))) (set-Contains xs i last x from)

  pub Contains-swap_remove : (xs : List X) (i : ℕ) (d x : X) → i < length xs → (get_or xs i x ≢ x) → Contains xs x → Contains (swap_remove xs i d) x
  Contains-swap_remove xs i d x lt ne c =
      let last = get_or xs (length xs - 1) d in
      let n = length xs - 1 in
      let long : length (take n (set xs i last)) ≡ n = length-take-le n (set xs i last) (omega (arith, length-set xs i last)) in
      let off : c.0 ≢ i = λ is. ne (sym (ap (λ j. get_or xs j x) is) ∙ c.2) in
      ⊎_elim
      (λ (is : c.0 ≡ n).
      let front : i < n = omega (arith, lt, is, off) in
      (i, omega (arith, long, front), get_or-take n (set xs i last) i x front ∙ get_or-set_same xs i last x lt ∙ at_end (length xs - 1) is))
      (λ (o : (c.0 < n) ⊎ (n < c.0)). ⊎_elim
      (λ (a : c.0 < n). (c.0, omega (arith, long, a), get_or-take n (set xs i last) c.0 x a ∙ get_or-set_other xs i c.0 last x off ∙ c.2))
      (λ (b : n < c.0). absurd (omega (arith, b, c.1)))
      o)
      (cases_order c.0 n)
    where
      at_end : (m : ℕ) → c.0 ≡ m → get_or xs m d ≡ x
      at_end m is = any_default xs m d x (omega (arith, is, c.1)) ∙ sym (ap (λ j. get_or xs j x) is) ∙ c.2

module _ {X Y : Type 0} (f : X → Y) where
  pub Contains-map : (xs : List X) (x : X) → Contains xs x → Contains (map f xs) (f x)
  Contains-map xs x c = (c.0, omega (arith, c.1, length-map xs f), get_or-map f xs c.0 x ∙ ap f c.2)

  pub map-Contains : (xs : List X) (y : Y) → Contains (map f xs) y → (x : X) × Contains xs x × (f x ≡ y)
  map-Contains [] y c = absurd (omega (arith, c.1))
  map-Contains (x ∷ xs) y (zero, lt, is) = (x, Contains-get_or (x ∷ xs) 0 x (omega arith), is)
  map-Contains (x ∷ xs) y (suc k, lt, is) =
      let m = map-Contains xs y (k, omega (arith, lt), is) in
      (m.0, (suc m.1.0, omega (arith, m.1.1), m.1.2), m.2)

  -- what holds of each and each later one
  pub AllPairs-map : (R : X → X → Type 0) (S : Y → Y → Type 0) → ((x y : X) → R x y → S (f x) (f y)) → (xs : List X) → AllPairs R xs → AllPairs S (map f xs)
  AllPairs-map R S g [] h i j d lt in_ = absurd (omega (arith, in_))
  AllPairs-map R S g (x ∷ xs) h i j d lt in_ =
      let b : j < length (x ∷ xs) = omega (arith, in_, length-map (x ∷ xs) f) in
      let a : i < length (x ∷ xs) = omega (arith, lt, b) in
      let at = λ (k : ℕ) (h : k < length (x ∷ xs)). any_default (map f (x ∷ xs)) k d (f x) (omega (arith, h, length-map (x ∷ xs) f)) ∙ get_or-map f (x ∷ xs) k x in
      subst (λ y. S y (get_or (map f (x ∷ xs)) j d)) (sym (at i a)) (subst (λ y. S (f (get_or (x ∷ xs) i x)) y) (sym (at j b)) (g (get_or (x ∷ xs) i x) (get_or (x ∷ xs) j x) (h i j x lt b)))

-- ---- what holds of each and each later one of two lists

module _ {X : Type 0} (R : X → X → Type 0) where
  pub AllPairs-left : (xs ys : List X) → AllPairs R (xs ++ ys) → AllPairs R xs
  AllPairs-left xs ys h i j d lt in_ =
      let both : j < length (xs ++ ys) = omega (arith, in_, length-append xs ys) in
      subst (λ x. R x (get_or xs j d)) (get_or-append xs ys d i (omega (arith, lt, in_))) (subst (λ y. R (get_or (xs ++ ys) i d) y) (get_or-append xs ys d j in_) (h i j d lt both))

  pub AllPairs-right : (xs ys : List X) → AllPairs R (xs ++ ys) → AllPairs R ys
  AllPairs-right xs ys h i j d lt in_ =
      let both : length xs + j < length (xs ++ ys) = omega (arith, in_, length-append xs ys) in
      subst (λ x. R x (get_or ys j d)) (get_or-append-add xs ys i d) (subst (λ y. R (get_or (xs ++ ys) (length xs + i) d) y) (get_or-append-add xs ys j d) (h (length xs + i) (length xs + j) d (omega (arith, lt)) both))

  pub AllPairs-across : (xs ys : List X) → AllPairs R (xs ++ ys) → (x y : X) → Contains xs x → Contains ys y → R x y
  AllPairs-across xs ys h x y a b =
      let both : length xs + b.0 < length (xs ++ ys) = omega (arith, b.1, length-append xs ys) in
      subst (λ z. R z y) (get_or-append xs ys x a.0 a.1 ∙ a.2)
      (subst (R (get_or (xs ++ ys) a.0 x)) (any_default (xs ++ ys) (length xs + b.0) x y both ∙ get_or-append-add xs ys b.0 y ∙ b.2) (h a.0 (length xs + b.0) x (omega (arith, a.1)) both))

  pub AllPairs-join : (xs ys : List X) → AllPairs R xs → AllPairs R ys → ((x y : X) → Contains xs x → Contains ys y → R x y) → AllPairs R (xs ++ ys)
  AllPairs-join xs ys p q across i j d lt in_ =
      ⊎_elim
      (λ (b : j < length xs).
      subst (λ x. R x (get_or (xs ++ ys) j d)) (sym (get_or-append xs ys d i (omega (arith, lt, b)))) (subst (R (get_or xs i d)) (sym (get_or-append xs ys d j b)) (p i j d lt b)))
      (λ (b : length xs ≤ j).
      let at = get_or-append_right xs ys j d b in
      let there : j - length xs < length ys = omega (arith, in_, b, length-append xs ys) in
      subst (R (get_or (xs ++ ys) i d)) (sym at)
      (⊎_elim
      (λ (a : i < length xs). subst (λ x. R x (get_or ys (j - length xs) d)) (sym (get_or-append xs ys d i a)) (across (get_or xs i d) (get_or ys (j - length xs) d) (Contains-get_or xs i d a) (Contains-get_or ys (j - length xs) d there)))
      (λ (a : length xs ≤ i). subst (λ x. R x (get_or ys (j - length xs) d)) (sym (get_or-append_right xs ys i d a)) (q (i - length xs) (j - length xs) d (omega (arith, lt, a)) there))
      (below i (length xs))))
      (below j (length xs))
    where
      below : (m n : ℕ) → (m < n) ⊎ (n ≤ m)
      below m n = ⊎_elim (λ (e : m ≡ n). inr (omega (arith, e))) (λ (o : (m < n) ⊎ (n < m)). ⊎_elim (λ (l : m < n). inl l) (λ (r : n < m). inr (omega (arith, r))) o) (cases_order m n)

module _ {X : Type 0} where
  -- of all of two lists
  pub All-left : (P : X → Type 0) (xs ys : List X) → All P (xs ++ ys) → All P xs
  All-left P xs ys h = All-from_Contains P xs (λ x c. All-contains P (xs ++ ys) x h (Contains-append_left xs ys x c))

  pub All-right : (P : X → Type 0) (xs ys : List X) → All P (xs ++ ys) → All P ys
  All-right P xs ys h = All-from_Contains P ys (λ x c. All-contains P (xs ++ ys) x h (Contains-append_right xs ys x c))

  head_same : (x y : X) (xs ys : List X) → x ∷ xs ≡ y ∷ ys → x ≡ y
  head_same x y xs ys e = cc

  tail_same : (x y : X) (xs ys : List X) → x ∷ xs ≡ y ∷ ys → xs ≡ ys
  tail_same x y xs ys e = cc

  -- the last of a list
  pub last_same : (xs ys : List X) (x y : X) → xs ++ x ∷ [] ≡ ys ++ y ∷ [] → (xs ≡ ys) × (x ≡ y)
  last_same [] [] x y e = (refl, head_same x y [] [] e)
  last_same [] (z ∷ ys) x y e = absurd (omega (arith, ap (length {A = X}) e, length-append ys (y ∷ [])))
  last_same (z ∷ xs) [] x y e = absurd (omega (arith, ap (length {A = X}) e, length-append xs (x ∷ [])))
  last_same (z ∷ xs) (v ∷ ys) x y e =
      let rest = last_same xs ys x y (tail_same z v (xs ++ x ∷ []) (ys ++ y ∷ []) e) in
      (λ i. head_same z v (xs ++ x ∷ []) (ys ++ y ∷ []) e i ∷ rest.0 i, rest.1)
