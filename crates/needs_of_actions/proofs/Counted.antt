-- Events that are counted one after the other.
use Rattle.std.proofs.Common.{◌≡◌, ◌+◌, ◌-◌, ◌<◌, ◌≤◌, ◌≢◌, ◌==◌, ◌&&◌, ◌∙◌, ℕ, suc, Bool, true, false, List, [], ◌∷◌, add-one, ap, arith, cond, drop, drop-cons, filter, get_or, length, not, refl, slice_get, subst, sym, take_while}
use Rattle.std.proofs.lemmas.Bool.{eq-eqb, eqb-true}
use Rattle.std.proofs.lemmas.List.{drop_all}
use Rattle.std.proofs.lemmas.List.Sums.{take_while-cons}
use Rattle.bal_base.specs.declared.place.Place.{Place}
use Rattle.typed_tree.specs.declared.event.SeenEvent.{SeenEvent}
use Rattle.worker_pairing.specs.Events.{receives_from, sends_to}
use Rattle.check_words.specs.Actions.{fails_at, is_at, may_fail, sent_before}
use Rattle.needs_of_actions.specs.Failing.{one_if}

no-true : true ≡ false → ⊥
no-true e = cc

-- ---- a test that the first member passes, or doesn't

module _ {X : Type 0} (p : X → Bool) (x : X) (xs : List X) where
  filter-yes : p x ≡ true → filter p (x ∷ xs) ≡ x ∷ filter p xs
  filter-yes e = rw e refl

  filter-no : p x ≡ false → filter p (x ∷ xs) ≡ filter p xs
  filter-no e = rw e refl

  while-yes : p x ≡ true → take_while p (x ∷ xs) ≡ x ∷ take_while p xs
  while-yes e = take_while-cons p x xs ∙ ap (λ b. cond b (x ∷ take_while p xs) []) e

  while-no : p x ≡ false → take_while p (x ∷ xs) ≡ []
  while-no e = take_while-cons p x xs ∙ ap (λ b. cond b (x ∷ take_while p xs) []) e

-- ---- messages before a place

-- how many members of which s holds stand before the first one of which a holds, among those of which w holds
module _ {X : Type 0} (w a s : X → Bool) where
  abbrev counted : List X → ℕ
  counted xs = length (filter s (take_while (λ e. not (a e)) (filter w xs)))

  among : (x : X) (xs : List X) → w x ≡ true → a x ≡ false → counted (x ∷ xs) ≡ length (filter s (x ∷ take_while (λ e. not (a e)) (filter w xs)))
  among x xs h g =
      ap (λ ys. length (filter s (take_while (λ e. not (a e)) ys))) (filter-yes w x xs h) ∙ ap (λ ys. length (filter s ys)) (while-yes (λ e. not (a e)) x (filter w xs) (ap not g))

  count-by : (p q r : Bool) (x : X) (xs : List X) → w x ≡ p → a x ≡ q → s x ≡ r → (p && q) ≡ false → counted (x ∷ xs) ≡ one_if (p && r) + counted xs
  count-by true true r x xs h g k e = absurd (no-true e)
  count-by true false true x xs h g k e =
      let first : counted (x ∷ xs) ≡ length (filter s (x ∷ take_while (λ e. not (a e)) (filter w xs))) = among x xs h g in
      let more : length (filter s (x ∷ take_while (λ e. not (a e)) (filter w xs))) ≡ suc (counted xs) = ap length (filter-yes s x (take_while (λ e. not (a e)) (filter w xs)) k) in
      omega (arith, first, more)
  count-by true false false x xs h g k e =
      let first : counted (x ∷ xs) ≡ length (filter s (x ∷ take_while (λ e. not (a e)) (filter w xs))) = among x xs h g in
      let more : length (filter s (x ∷ take_while (λ e. not (a e)) (filter w xs))) ≡ counted xs = ap length (filter-no s x (take_while (λ e. not (a e)) (filter w xs)) k) in
      omega (arith, first, more)
  count-by false q r x xs h g k e =
      let first : counted (x ∷ xs) ≡ counted xs = ap (λ ys. length (filter s (take_while (λ e. not (a e)) ys))) (filter-no w x xs h) in
      omega (arith, first)

  ends-by : (p q : Bool) (x : X) (xs : List X) → w x ≡ p → a x ≡ q → (p && q) ≡ true → counted (x ∷ xs) ≡ 0
  ends-by true true x xs h g e =
      ap (λ ys. length (filter s (take_while (λ e. not (a e)) ys))) (filter-yes w x xs h) ∙ ap (λ ys. length (filter s ys)) (while-no (λ e. not (a e)) x (filter w xs) (ap not g))
  ends-by true false x xs h g e = absurd (no-true (sym e))
  ends-by false q x xs h g e = absurd (no-true (sym e))

  count-more : (x : X) (xs : List X) → (w x && a x) ≡ false → counted (x ∷ xs) ≡ one_if (w x && s x) + counted xs
  count-more x xs e = count-by (w x) (a x) (s x) x xs refl refl refl e

  count-ends : (x : X) (xs : List X) → (w x && a x) ≡ true → counted (x ∷ xs) ≡ 0
  count-ends x xs e = ends-by (w x) (a x) x xs refl refl e

module _ (own peer : ℕ) (at : Place) (x : SeenEvent) (xs : List SeenEvent) where
  pub sent-more : ((x.event.worker == own) && is_at at x) ≡ false
      → sent_before own peer at (x ∷ xs) ≡ one_if ((x.event.worker == own) && sends_to peer x.kind) + sent_before own peer at xs
  sent-more e = count-more (λ y. y.event.worker == own) (is_at at) (λ y. sends_to peer y.kind) x xs e

  pub sent-ends : ((x.event.worker == own) && is_at at x) ≡ true → sent_before own peer at (x ∷ xs) ≡ 0
  sent-ends e = count-ends (λ y. y.event.worker == own) (is_at at) (λ y. sends_to peer y.kind) x xs e

-- ---- the receive with a number

module _ {X : Type 0} (w r : X → Bool) where
  read-by : (p q : Bool) (x : X) (xs : List X) → w x ≡ p → r x ≡ q → (p && q) ≡ true → filter r (filter w (x ∷ xs)) ≡ x ∷ filter r (filter w xs)
  read-by true true x xs h g e = ap (λ ys. filter r ys) (filter-yes w x xs h) ∙ filter-yes r x (filter w xs) g
  read-by true false x xs h g e = absurd (no-true (sym e))
  read-by false q x xs h g e = absurd (no-true (sym e))

  skip-by : (p q : Bool) (x : X) (xs : List X) → w x ≡ p → r x ≡ q → (p && q) ≡ false → filter r (filter w (x ∷ xs)) ≡ filter r (filter w xs)
  skip-by true true x xs h g e = absurd (no-true e)
  skip-by true false x xs h g e = ap (λ ys. filter r ys) (filter-yes w x xs h) ∙ filter-no r x (filter w xs) g
  skip-by false q x xs h g e = ap (λ ys. filter r ys) (filter-no w x xs h)

module _ (own peer : ℕ) (x : SeenEvent) (xs : List SeenEvent) where
  pub passed : (n : ℕ) → ((x.event.worker == peer) && receives_from own x.kind) ≡ false → may_fail own peer n (x ∷ xs) ≡ may_fail own peer n xs
  passed n e =
      ap (λ ys. fails_at (slice_get ys n))
      (skip-by (λ y. y.event.worker == peer) (λ y. receives_from own y.kind) (x.event.worker == peer) (receives_from own x.kind) x xs refl refl e)

  pub first-is : ((x.event.worker == peer) && receives_from own x.kind) ≡ true → may_fail own peer 0 (x ∷ xs) ≡ x.after_early
  first-is e =
      ap (λ ys. fails_at (slice_get ys 0))
      (read-by (λ y. y.event.worker == peer) (λ y. receives_from own y.kind) (x.event.worker == peer) (receives_from own x.kind) x xs refl refl e)

  pub next-is : (n : ℕ) → ((x.event.worker == peer) && receives_from own x.kind) ≡ true → may_fail own peer (suc n) (x ∷ xs) ≡ may_fail own peer n xs
  next-is n e =
      ap (λ ys. fails_at (slice_get ys (suc n)))
      (read-by (λ y. y.event.worker == peer) (λ y. receives_from own y.kind) (x.event.worker == peer) (receives_from own x.kind) x xs refl refl e)

-- ---- loops over events

none-more : (n : ℕ) → n ≡ n + 0
none-more n = omega arith

module _ (xs : List SeenEvent) (i : ℕ) (x : SeenEvent) (lt : i < length xs) (is : x ≡ get_or xs i x) where
  here : drop i xs ≡ x ∷ drop (suc i) xs
  here = drop-cons xs i x lt ∙ ap (λ y. y ∷ drop (suc i) xs) (sym is)

  module _ (own peer : ℕ) (at : Place) (sent total : ℕ) (same : sent + sent_before own peer at (drop i xs) ≡ total) where
    pub sent-stop : ((x.event.worker == own) && is_at at x) ≡ true → sent ≡ total
    sent-stop e =
        let first : sent_before own peer at (drop i xs) ≡ sent_before own peer at (x ∷ drop (suc i) xs) = ap (sent_before own peer at) here in
        let none : sent_before own peer at (x ∷ drop (suc i) xs) ≡ 0 = sent-ends own peer at x (drop (suc i) xs) e in
        omega (arith, first, none, same)

    pub sent-go : (more : ℕ) → ((x.event.worker == own) && is_at at x) ≡ false → more ≡ one_if ((x.event.worker == own) && sends_to peer x.kind)
        → (sent + more) + sent_before own peer at (drop (i + 1) xs) ≡ total
    sent-go more e m =
        let first : sent_before own peer at (drop i xs) ≡ sent_before own peer at (x ∷ drop (suc i) xs) = ap (sent_before own peer at) here in
        let step : sent_before own peer at (x ∷ drop (suc i) xs) ≡ one_if ((x.event.worker == own) && sends_to peer x.kind) + sent_before own peer at (drop (suc i) xs) =
        sent-more own peer at x (drop (suc i) xs) e in
        rw add-one (omega (arith, first, step, same, m))

  module _ (own peer number seen : ℕ) (total : Bool) (within : seen ≤ number) (same : may_fail own peer (number - seen) (drop i xs) ≡ total) where
    pub fails-here : ((x.event.worker == peer) && receives_from own x.kind) ≡ true → seen ≡ number → x.after_early ≡ total
    fails-here e at_last =
        let zero_left : number - seen ≡ 0 = omega arith in
        sym (first-is own peer x (drop (suc i) xs) e) ∙ ap (λ ys. may_fail own peer 0 ys) (sym here) ∙ ap (λ n. may_fail own peer n (drop i xs)) (sym zero_left) ∙ same

    pub fails-later : ((x.event.worker == peer) && receives_from own x.kind) ≡ true → seen ≢ number → may_fail own peer (number - (seen + 1)) (drop (i + 1) xs) ≡ total
    fails-later e other =
        let left : number - seen ≡ suc (number - (seen + 1)) = omega arith in
        rw add-one
        (sym (next-is own peer x (drop (suc i) xs) (number - (seen + 1)) e) ∙ ap (λ ys. may_fail own peer (suc (number - (seen + 1))) ys) (sym here)
        ∙ ap (λ n. may_fail own peer n (drop i xs)) (sym left) ∙ same)

    pub fails-elsewhere : ((x.event.worker == peer) && receives_from own x.kind) ≡ false → may_fail own peer (number - seen) (drop (i + 1) xs) ≡ total
    fails-elsewhere e = rw add-one (sym (passed own peer x (drop (suc i) xs) (number - seen) e) ∙ ap (λ ys. may_fail own peer (number - seen) ys) (sym here) ∙ same)

    pub fails-found : (receives : Bool) → receives ≡ ((x.event.worker == peer) && receives_from own x.kind) → (receives && (seen == number)) ≡ true → x.after_early ≡ total
    fails-found true e so = fails-here (sym e) (eqb-true seen number so)
    fails-found false e so = absurd (no-true (sym so))

    goes-on : (receives : Bool) → receives ≡ ((x.event.worker == peer) && receives_from own x.kind) → (receives && (seen == number)) ≡ false
        → (seen + one_if receives ≤ number) × (may_fail own peer (number - (seen + one_if receives)) (drop (i + 1) xs) ≡ total)
    goes-on true e other = let apart : seen ≢ number = λ q. no-true (sym (eq-eqb seen number q) ∙ other) in (omega (arith, apart), fails-later (sym e) apart)
    goes-on false e other = (omega arith, subst (λ n. may_fail own peer (number - n) (drop (i + 1) xs) ≡ total) (none-more seen) (fails-elsewhere (sym e)))

    -- all of it, by what the tests say
    pub fails-go : (receives : Bool) (more : ℕ) → receives ≡ ((x.event.worker == peer) && receives_from own x.kind) → more ≡ one_if receives → (receives && (seen == number)) ≡ false
        → (seen + more ≤ number) × (may_fail own peer (number - (seen + more)) (drop (i + 1) xs) ≡ total)
    fails-go receives more e m other = subst (λ k. (seen + k ≤ number) × (may_fail own peer (number - (seen + k)) (drop (i + 1) xs) ≡ total)) (sym m) (goes-on receives e other)

module _ (own peer : ℕ) (xs : List SeenEvent) (i : ℕ) (past : length xs ≤ i) where
  pub sent-none : (at : Place) (sent total : ℕ) → sent + sent_before own peer at (drop i xs) ≡ total → sent ≡ total
  sent-none at sent total same =
      let none : sent_before own peer at (drop i xs) ≡ 0 = ap (sent_before own peer at) (drop_all i xs past) in
      omega (arith, none, same)

  pub fails-none : (n : ℕ) (total : Bool) → may_fail own peer n (drop i xs) ≡ total → false ≡ total
  fails-none n total same = ap (λ ys. may_fail own peer n ys) (sym (drop_all i xs past)) ∙ same
