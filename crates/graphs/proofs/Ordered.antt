-- A graph in order has no cycles.
use Rattle.std.proofs.Common.{◌≡◌, ℕ, zero, suc, ◌+◌, ◌<◌, ◌≤◌, ◌⊎◌, inl, inr, Bool, true, List, [], ◌∷◌, length, get_or, take, sym, subst, ◌∙◌, arith, Option, None, Some, IfSome, Vec}
use Rattle.std.specs.List.{Contains}
use Rattle.std.specs.Option.{is_some}
use Rattle.std.proofs.lemmas.Bool.{cases_lt, false≢true}
use Rattle.std.proofs.lemmas.List.{take_all, take_more}
use Rattle.std.proofs.lemmas.List.Elements.{Contains-append_left, Contains-push_cases}
use Rattle.graphs.specs.Cycles.{Follows, IsOnCycle, IsWay}
use Rattle.graphs.specs.Ordering.{IsOrder}
use Rattle.graphs.proofs.Levels.{follows-place}
use Rattle.graphs.proofs.Noting.{none-among}

longer-has : (xs : List ℕ) (k y : ℕ) → Contains (take k xs) y → Contains (take (k + 1) xs) y
longer-has xs k y c = by (cases_lt k (length xs))
  where
    by : (k < length xs) ⊎ (length xs ≤ k) → Contains (take (k + 1) xs) y
    by (inl lt) = subst (λ zs. Contains zs y) (sym (take_more xs k 0 lt)) (Contains-append_left (take k xs) (get_or xs k 0 ∷ []) y c)
    by (inr le) = subst (λ zs. Contains zs y) (take_all k xs le ∙ sym (take_all (k + 1) xs (omega (arith, le)))) c

module _ (next : List (List ℕ)) (order : List ℕ) (is : IsOrder next order) where
  -- a member of one more is one of the first so many, or the next one
  one-more : (p i : ℕ) (Q : Type 0) → Contains (take (suc p) order) i → (Contains (take p order) i → Q) → (p < length order → get_or order p 0 ≡ i → Q) → Q
  one-more p i Q c earlier last = by (cases_lt p (length order))
    where
      here : Contains (take (p + 1) order) i
      here = let e : suc p ≡ p + 1 = omega arith in subst (λ n. Contains (take n order) i) e c

      at_end : p < length order → Contains (take p order) i ⊎ (get_or order p 0 ≡ i) → Q
      at_end lt (inl m) = earlier m
      at_end lt (inr e) = last lt e

      by : (p < length order) ⊎ (length order ≤ p) → Q
      by (inl lt) = at_end lt (Contains-push_cases (take p order) (get_or order p 0) i (subst (λ zs. Contains zs i) (take_more order p 0 lt) here))
      by (inr le) = earlier (subst (λ zs. Contains zs i) (take_all (p + 1) order (omega (arith, le)) ∙ sym (take_all p order le)) here)

  -- what follows the next one is one of the first so many
  behind-next : (p i j : ℕ) → p < length order → get_or order p 0 ≡ i → Follows next i j → Contains (take p order) j
  behind-next p i j lt e f = is.behind p j lt (subst (λ n. Follows next n j) (sym e) f)

  -- what follows one of the first so many is one of them
  closed : (p i j : ℕ) → Contains (take p order) i → Follows next i j → Contains (take p order) j
  closed zero i j c f = absurd (none-among i c)
  closed (suc p) i j c f =
      let more : (y : ℕ) → Contains (take p order) y → Contains (take (suc p) order) y = λ y m. let e : p + 1 ≡ suc p = omega arith in subst (λ n. Contains (take n order) y) e (longer-has order p y m) in
      one-more p i (Contains (take (suc p) order) j) c (λ m. more j (closed p i j m f)) (λ lt e. more j (behind-next p i j lt e f))

  -- and so is what a way from there leads to
  way-ends : (p i : ℕ) (ks : List ℕ) (j : ℕ) → ((y : ℕ) → Follows next i y → Contains (take p order) y) → IsWay next i ks j → Contains (take p order) j
  way-ends p i [] j first w = first j w
  way-ends p i (k ∷ ks) j first w = way-ends p k ks j (λ y. closed p k y (first k w.0)) w.1

  none-on_cycle : (p i : ℕ) → Contains (take p order) i → IsOnCycle next i → ⊥
  none-on_cycle zero i c cycle = none-among i c
  none-on_cycle (suc p) i c (others, w) =
      one-more p i ⊥ c (λ m. none-on_cycle p i m (others, w)) (λ lt e. none-on_cycle p i (way-ends p i others i (λ y f. behind-next p i y lt e f) w) (others, w))

  pub ordered-no_cycle : (i : ℕ) → ¬ IsOnCycle next i
  ordered-no_cycle i cycle =
      none-on_cycle (length order) i (subst (λ zs. Contains zs i) (sym (take_all (length order) order (omega arith))) (is.all i (placed cycle.0 cycle.1))) cycle
    where
      placed : (others : List ℕ) → IsWay next i others i → i < length next
      placed [] w = follows-place next i i w
      placed (k ∷ ks) w = follows-place next i k w.0

-- an order that was found shows that there are none
pub found-none : {Z : Type 0} (next : List (List ℕ)) (found : Option (Vec ℕ Z)) (b : Bool) → b ≡ is_some found → IfSome found (λ order. IsOrder next order.items)
    → b ≡ true → (i : ℕ) → ¬ IsOnCycle next i
found-none next (Some order) b e is known i = ordered-no_cycle next order.items is i
found-none next None b e is known i = absurd (false≢true (sym e ∙ known))
