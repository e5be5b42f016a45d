-- What a search comes to over a list of events.
use Rattle.std.proofs.Common.{◌≡◌, ◌∙◌, ◌≤◌, ◌+◌, ◌-◌, ◌==◌, ℕ, zero, suc, Bool, true, false, List, [], ◌∷◌, Some, None, map, length, refl, sym, subst, ap, arith}
use Rattle.std.specs.Prelude.{◌&&◌, if◌then◌else◌, min, slice_get}
use Rattle.std.proofs.lemmas.Bool.{ne_eqb}
use Rattle.typed_tree.specs.declared.event.EventKind.{EventKind}
use Rattle.worker_pairing.specs.Events.{IsNth, before, count}
use Rattle.worker_pairing.proofs.Counts.{nth-length}
use Rattle.event_search.specs.declared.search.Which.{Which}
use Rattle.event_search.specs.declared.search.Which.TheVariants.{Any}
use Rattle.event_search.specs.Search.{most, Occurrence, is_in}
use Rattle.event_search.specs.inner.Walking.{Sought, find, note, note_behind, notes, one_if, pass, start}

abbrev pub kinds_in : List Occurrence → List EventKind
kinds_in = map (λ e. e.kind)

-- ---- sums up to the greatest number

min-same : (a m : ℕ) → a ≤ m → a ≡ min (a + 0) m
min-same a m le = grind (arith, le)

min-below : (a m : ℕ) → min a m ≤ m
min-below a m = grind (arith)

min-more : (a b d m : ℕ) → min (min (a + b) m + d) m ≡ min (a + (b + d)) m
min-more a b d m = grind (arith)

-- ---- what was found stays

found-stays : (es : List Occurrence) (s : Sought) (x : Occurrence) → s.found ≡ Some x → notes es s ≡ s
found-stays [] s x is = refl
found-stays (e ∷ es) s x is = ap (notes es) (ap (λ o. note_behind o e s) is) ∙ found-stays es s x is

module _ (c d : Which) where
  -- the event that is looked for, or that there is none
  pub data Ends (k t : ℕ) (es : List Occurrence) (s : Sought) : Type 0 where
    ends_at : (n : ℕ) (e : Occurrence) → IsNth (is_in c) (kinds_in es) k n → slice_get es n ≡ Some e → s.found ≡ Some e → s.tally ≡ min (t + before (is_in d) (kinds_in es) n) most → Ends k t es s
    ends_past : count (is_in c) (kinds_in es) ≤ k → s.found ≡ None → s.tally ≡ min (t + count (is_in d) (kinds_in es)) most → Ends k t es s

  one-later : (es : List Occurrence) (e : Occurrence) (k t j : ℕ) (s : Sought) → k ≡ j + one_if (is_in c e.kind) → Ends j (min (t + one_if (is_in d e.kind)) most) es s → Ends k t (e ∷ es) s
  one-later es e k t j s place (ends_at n x nth there found tally) =
      let at = nth.1 in
      ends_at (suc n) x (nth.0, omega (arith, at, place)) there found (tally ∙ min-more t (one_if (is_in d e.kind)) (before (is_in d) (kinds_in es) n) most)
  one-later es e k t j s place (ends_past few none tally) =
      ends_past (omega (arith, few, place)) none (tally ∙ min-more t (one_if (is_in d e.kind)) (count (is_in d) (kinds_in es)) most)

  abbrev choose : Bool → Bool → Occurrence → Sought → Sought
  choose b z e s = if b && z then find e s else pass e s

  -- one event was passed
  passed : (e : Occurrence) (k j t : ℕ) → k ≡ j + one_if (is_in c e.kind) → pass e (start c d k t) ≡ start c d j (min (t + one_if (is_in d e.kind)) most)
  passed e k j t place = ap (λ n. start c d n (min (t + one_if (is_in d e.kind)) most)) less
    where
      less : k - one_if (is_in c e.kind) ≡ j
      less = omega (arith, place)

  pub ends : (es : List Occurrence) (k t : ℕ) → t ≤ most → Ends k t es (notes es (start c d k t))
  ends [] k t le = ends_past (omega arith) refl (min-same t most le)
  ends (e ∷ es) k t le = by (is_in c e.kind) k refl (λ j. ends es j (min (t + one_if (is_in d e.kind)) most) (min-below (t + one_if (is_in d e.kind)) most))
    where
      on : (k j : ℕ) (b z : Bool) → is_in c e.kind ≡ b → (k == 0) ≡ z → b && z ≡ false → k ≡ j + one_if (is_in c e.kind)
          → Ends j (min (t + one_if (is_in d e.kind)) most) es (notes es (start c d j (min (t + one_if (is_in d e.kind)) most))) → Ends k t (e ∷ es) (notes (e ∷ es) (start c d k t))
      on k j b z is none off place more =
          let goes : note e (start c d k t) ≡ start c d j (min (t + one_if (is_in d e.kind)) most) =
          (λ i. choose (is i) (none i) e (start c d k t)) ∙ ap (λ h. if h then find e (start c d k t) else pass e (start c d k t)) off ∙ passed e k j t place in
          one-later es e k t j _ place (subst (Ends j (min (t + one_if (is_in d e.kind)) most) es) (ap (notes es) (sym goes)) more)

      by : (b : Bool) (k : ℕ) → is_in c e.kind ≡ b → ((j : ℕ) → Ends j (min (t + one_if (is_in d e.kind)) most) es (notes es (start c d j (min (t + one_if (is_in d e.kind)) most))))
          → Ends k t (e ∷ es) (notes (e ∷ es) (start c d k t))
      by true zero is more =
          let goes : notes (e ∷ es) (start c d 0 t) ≡ find e (start c d 0 t) =
          ap (notes es) (ap (λ b. choose b true e (start c d 0 t)) is) ∙ found-stays es (find e (start c d 0 t)) e refl in
          subst (Ends 0 t (e ∷ es)) (sym goes) (ends_at 0 e (is, refl) refl refl (min-same t most le))
      by true (suc k) is more =
          let place : suc k ≡ k + one_if (is_in c e.kind) = let one = ap one_if is in omega (arith, one) in
          on (suc k) k true false is (ne_eqb (suc k) 0 (λ h. omega (arith, h))) refl place (more k)
      by false k is more =
          let place : k ≡ k + one_if (is_in c e.kind) = let one = ap one_if is in omega (arith, one) in
          on k k false (k == 0) is refl refl place (more k)

-- ---- all events

pub count-any : (es : List EventKind) → count (is_in Any) es ≡ length es
count-any [] = refl
count-any (e ∷ es) = let more = count-any es in omega (arith, more)

pub before-any : (es : List EventKind) (n : ℕ) → n ≤ length es → before (is_in Any) es n ≡ n
before-any [] zero le = refl
before-any [] (suc n) le = absurd (omega (arith, le))
before-any (e ∷ es) zero le = refl
before-any (e ∷ es) (suc n) le = let more = before-any es n (omega (arith, le)) in omega (arith, more)

pub nth-any : (es : List EventKind) (k n : ℕ) → IsNth (is_in Any) es k n → n ≡ k
nth-any es k n nth =
    let lt = nth-length (is_in Any) es n nth.0 in
    let all = before-any es n (omega (arith, lt)) in
    let at = nth.1 in
    omega (arith, all, at)

-- so many stand before a number at most
pub before-few : (is : EventKind → Bool) (es : List EventKind) (n : ℕ) → before is es n ≤ n
before-few is [] zero = omega arith
before-few is [] (suc n) = omega arith
before-few is (e ∷ es) zero = omega arith
before-few is (e ∷ es) (suc n) = let more = before-few is es n in let one = at-most-one (is e) in omega (arith, more, one)
  where
    at-most-one : (b : Bool) → one_if b ≤ 1
    at-most-one true = omega arith
    at-most-one false = omega arith
