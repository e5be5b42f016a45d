-- Some and all of a list of atoms, taken one by one.
use Rattle.std.proofs.Common.{slice_get, Some, ◌≡◌, ◌↔◌, ◌⊎◌, ⊎_elim, inl, inr, ℕ, ◌+◌, ◌<◌, ◌≤◌, List, [], ◌∷◌, ◌++◌, take, length, get_or, cond, max, Bool, true, false, nat_lt, ◌==◌, Any, Contains, refl, sym, subst, arith}
use Rattle.std.specs.Ordering.{nat_cmp, is_lt, ord_max}
use Rattle.std.specs.declared.cmp.Ordering.TheVariants.{Less, Equal, Greater}
use Rattle.std.proofs.lemmas.Bool.{cases_order}
use Rattle.std.proofs.lemmas.Bool.Decides.{nat_tests}
use Rattle.std.proofs.lemmas.List.{take_more}
use Rattle.std.proofs.lemmas.List.Elements.{All-push, All-weaker, Contains-push, Contains-push_cases, Contains-append_left}
use Rattle.std.proofs.lemmas.Option.{get_or_from_slice_get}
use Rattle.empty_product.specs.Lists.{AreThose}
use Rattle.empty_product.specs.Play.{AreInPlay}

pub order : (m n : ℕ) → (m < n) ⊎ (n ≤ m)
order m n = by (cases_order m n)
  where
    by : (m ≡ n) ⊎ ((m < n) ⊎ (n < m)) → (m < n) ⊎ (n ≤ m)
    by (inl e) = inr (omega (arith, e))
    by (inr (inl lt)) = inl lt
    by (inr (inr gt)) = inr (omega (arith, gt))

-- ---- the greater of two numbers

module _ (a b : ℕ) where
  abbrev IsGreater : ℕ → Type 0
  IsGreater m = (a ≤ m) × (b ≤ m) × ((m ≡ a) ⊎ (m ≡ b))

  pub ord_max-parts : IsGreater (ord_max nat_cmp a b)
  ord_max-parts = by (nat_lt b a) (b == a) refl
    where
      by : (x y : Bool) → nat_lt b a ≡ x → IsGreater (cond (is_lt (cond x Less (cond y Equal Greater))) a b)
      by true y e = let below : b < a = grind (arith, nat_tests) in (omega arith, omega arith, inl refl)
      by false true e = let least : a ≤ b = grind (arith, nat_tests) in (least, omega arith, inr refl)
      by false false e = let least : a ≤ b = grind (arith, nat_tests) in (least, omega arith, inr refl)

  pub below_ord_max : (place : ℕ) → (place < ord_max nat_cmp a b) ↔ ((place < a) ⊎ (place < b))
  below_ord_max place = by (ord_max nat_cmp a b) ord_max-parts
    where
      by : (m : ℕ) → IsGreater m → (place < m) ↔ ((place < a) ⊎ (place < b))
      by m p = (
        λ lt. ⊎_elim (λ (e : m ≡ a). inl (omega (arith, lt, e))) (λ (e : m ≡ b). inr (omega (arith, lt, e))) p.2,
        ⊎_elim (λ (lt : place < a). omega (arith, lt, p.0)) (λ (lt : place < b). omega (arith, lt, p.1)),
      )

pub below_max : (a b place : ℕ) → (place < max a b) ↔ ((place < a) ⊎ (place < b))
below_max a b place = (
  λ lt. by lt (order place a),
  ⊎_elim (λ (lt : place < a). omega (arith, lt)) (λ (lt : place < b). omega (arith, lt)),
)
  where
    by : place < max a b → (place < a) ⊎ (a ≤ place) → (place < a) ⊎ (place < b)
    by lt (inl less) = inl less
    by lt (inr le) = inr (omega (arith, lt, le))

-- ---- some of a list

module _ {X : Type 0} (P : X → Type 0) where
  pub Any-push : (xs : List X) (y : X) → Any P (xs ++ y ∷ []) ↔ (Any P xs ⊎ P y)
  Any-push xs y = (
    λ h. ⊎_elim
        (λ (c : Contains xs h.1). inl (c.0, h.1, c.1, c.2, h.4))
        (λ (e : y ≡ h.1). inr (subst P (sym e) h.4))
        (Contains-push_cases xs y h.1 (h.0, h.2, h.3)),
    ⊎_elim
        (λ (h : Any P xs). let c = Contains-append_left xs (y ∷ []) h.1 (h.0, h.2, h.3) in (c.0, h.1, c.1, c.2, h.4))
        (λ (p : P y). let c = Contains-push xs y in (c.0, y, c.1, c.2, p)),
  )

  pub Any-more : (xs : List X) (i : ℕ) (d : X) → i < length xs → Any P (take (i + 1) xs) ↔ (Any P (take i xs) ⊎ P (get_or xs i d))
  Any-more xs i d lt = subst (λ ys. Any P ys ↔ (Any P (take i xs) ⊎ P (get_or xs i d))) (sym (take_more xs i d lt)) (Any-push (take i xs) (get_or xs i d))

  pub Any-none : ¬ Any P []
  Any-none h = omega (arith, h.2)

  pub Any-contains : (xs : List X) (x : X) → Contains xs x → P x → Any P xs
  Any-contains xs x c p = (c.0, x, c.1, c.2, p)

-- ---- those of a list that are chosen

-- what holds of each place before one and at it holds of each before the next
pub each_more : (P : ℕ → ℕ → Type 0) (xs : List ℕ) (i : ℕ) → ((k q : ℕ) → k < i → slice_get xs k ≡ Some q → P k q) → P i (get_or xs i 0) → (k q : ℕ) → k < i + 1 → slice_get xs k ≡ Some q → P k q
each_more P xs i before here k q lt is = by (order k i)
  where
    by : (k < i) ⊎ (i ≤ k) → P k q
    by (inl less) = before k q less is
    by (inr le) =
        let same : i ≡ k = omega (arith, le, lt) in
        subst (P k) (get_or_from_slice_get xs k q 0 is) (subst (λ j. P j (get_or xs j 0)) same here)

module _ (IsOut : ℕ → Type 0) (us : List ℕ) (i : ℕ) (lt : i < length us) (playing : List ℕ) (are : AreInPlay IsOut (take i us) playing) where
  abbrev here : ℕ
  here = get_or us i 0

  grown : take (i + 1) us ≡ take i us ++ here ∷ []
  grown = take_more us i 0 lt

  pub AreInPlay-out : IsOut here → AreInPlay IsOut (take (i + 1) us) playing
  AreInPlay-out out = subst (λ ws. AreInPlay IsOut ws playing) (sym grown) (record {
    among = All-weaker (λ a. Contains (take i us) a × ¬ IsOut a) (λ a. Contains (take i us ++ here ∷ []) a × ¬ IsOut a) (λ a h. (Contains-append_left (take i us) (here ∷ []) a h.0, h.1)) playing are.among;
    others = All-push (λ a. IsOut a ⊎ Contains playing a) (take i us) here are.others (inl out);
  })

  pub AreInPlay-in : ¬ IsOut here → AreInPlay IsOut (take (i + 1) us) (playing ++ here ∷ [])
  AreInPlay-in not_out = subst (λ ws. AreInPlay IsOut ws (playing ++ here ∷ [])) (sym grown) (record {
    among = All-push (λ a. Contains (take i us ++ here ∷ []) a × ¬ IsOut a) playing here
        (All-weaker (λ a. Contains (take i us) a × ¬ IsOut a) (λ a. Contains (take i us ++ here ∷ []) a × ¬ IsOut a) (λ a h. (Contains-append_left (take i us) (here ∷ []) a h.0, h.1)) playing are.among)
        (Contains-push (take i us) here, not_out);
    others = All-push (λ a. IsOut a ⊎ Contains (playing ++ here ∷ []) a) (take i us) here
        (All-weaker (λ a. IsOut a ⊎ Contains playing a) (λ a. IsOut a ⊎ Contains (playing ++ here ∷ []) a) (λ a h. ⊎_elim (λ (o : IsOut a). inl o) (λ (c : Contains playing a). inr (Contains-append_left playing (here ∷ []) a c)) h) (take i us) are.others)
        (inr (Contains-push playing here));
  })

module _ (P : ℕ → Type 0) (us : List ℕ) (i : ℕ) (lt : i < length us) (found : List ℕ) (are : AreThose P (take i us) found) where
  abbrev that : ℕ
  that = get_or us i 0

  pub AreThose-not : ¬ P that → AreThose P (take (i + 1) us) found
  AreThose-not fails = subst (λ ws. AreThose P ws found) (sym (take_more us i 0 lt)) (record {
    among = All-weaker (λ a. Contains (take i us) a × P a) (λ a. Contains (take i us ++ that ∷ []) a × P a) (λ a h. (Contains-append_left (take i us) (that ∷ []) a h.0, h.1)) found are.among;
    others = All-push (λ a. P a → Contains found a) (take i us) that are.others (λ p. absurd (fails p));
  })

  pub AreThose-more : P that → AreThose P (take (i + 1) us) (found ++ that ∷ [])
  AreThose-more p = subst (λ ws. AreThose P ws (found ++ that ∷ [])) (sym (take_more us i 0 lt)) (record {
    among = All-push (λ a. Contains (take i us ++ that ∷ []) a × P a) found that
        (All-weaker (λ a. Contains (take i us) a × P a) (λ a. Contains (take i us ++ that ∷ []) a × P a) (λ a h. (Contains-append_left (take i us) (that ∷ []) a h.0, h.1)) found are.among)
        (Contains-push (take i us) that, p);
    others = All-push (λ a. P a → Contains (found ++ that ∷ []) a) (take i us) that
        (All-weaker (λ a. P a → Contains found a) (λ a. P a → Contains (found ++ that ∷ []) a) (λ a h q. Contains-append_left found (that ∷ []) a (h q)) (take i us) are.others)
        (λ q. Contains-push found that);
  })
