-- The k-th message of a worker is the one event of the text that a test for it lets through.
use Rattle.std.proofs.Common.{◌≡◌, ◌∙◌, ◌<◌, ◌≤◌, ◌+◌, ◌++◌, ◌==◌, ℕ, zero, suc, Bool, true, false, List, [], ◌∷◌, Option, Some, None, map, refl, sym, subst, ap, arith}
use Rattle.std.specs.Prelude.{◌&&◌, filter, get_or, if◌then◌else◌, IsSomeAnd, not, slice_get}
use Rattle.std.proofs.lemmas.Bool.{and_from, and_parts, eq-eqb, eqb-true, false_from_ne_true, ne_eqb}
use Rattle.std.proofs.lemmas.List.{append-nil}
use Rattle.std.proofs.lemmas.List.Elements.{filter-append}
use Rattle.std.proofs.lemmas.Option.{slice_get-map}
use Rattle.typed_tree.specs.declared.event.EventKind.{EventKind}
use Rattle.worker_pairing.specs.Events.{IsNth, before}
use Rattle.worker_pairing.specs.Faults.{is_nth_receive, is_nth_send, kinds_of}
use Rattle.worker_pairing.specs.Marks.{Member, Members, Numbered, Saying, in_text, in_turn, is_initial, kinds, numbered_from}
use Rattle.worker_pairing.proofs.Counts.{not-before}
use Rattle.worker_partners.specs.declared.partners.Found.{Found}
use Rattle.worker_partners.specs.declared.partners.Side.{Side}
use Rattle.worker_partners.specs.declared.partners.Side.TheVariants.{SentTo, ReceivedFrom}
use Rattle.worker_partners.specs.Partners.{IsNthFound, found_held, is_on, listed, sayings_of}

abbrev pub numbered : (w i : ℕ) → Saying → Numbered
numbered w i s = record { worker = w; number = i; saying = s }

-- ---- the kinds of what a worker says

pub kinds-said-of : (ms : Members) (w : ℕ) → kinds_of ms w ≡ map (λ s. s.kind) (sayings_of ms w)
kinds-said-of [] w = refl
kinds-said-of (m ∷ ms) zero = refl
kinds-said-of (m ∷ ms) (suc w) = kinds-said-of ms w

pub kind-there : (ms : Members) (w i : ℕ) (s : Saying) → slice_get (sayings_of ms w) i ≡ Some s → slice_get (kinds_of ms w) i ≡ Some s.kind
kind-there ms w i s at =
    ap (λ es. slice_get es i) (kinds-said-of ms w) ∙ slice_get-map (λ s. s.kind) (sayings_of ms w) i
    ∙ ap kind_in at
  where
    kind_in : Option Saying → Option EventKind
    kind_in (Some s) = Some s.kind
    kind_in None = None

-- ---- what a test lets through

module _ (P : Numbered → Bool) where
  skipped : (x : Numbered) (xs : List Numbered) → P x ≡ false → filter P (x ∷ xs) ≡ filter P xs
  skipped x xs e = ap (λ b. if b then x ∷ filter P xs else filter P xs) e

  kept : (x : Numbered) (xs : List Numbered) → P x ≡ true → filter P (x ∷ xs) ≡ x ∷ filter P xs
  kept x xs e = ap (λ b. if b then x ∷ filter P xs else filter P xs) e

  -- ---- among the events of one worker

  none-through : (w n : ℕ) (ss : List Saying) → ((i : ℕ) (s : Saying) → slice_get ss i ≡ Some s → P (numbered w (n + i) s) ≡ false) → filter P (numbered_from w n ss) ≡ []
  none-through w n [] off = refl
  none-through w n (s ∷ ss) off =
      skipped (numbered w n s) (numbered_from w (n + 1) ss) (ap (λ m. P (numbered w m s)) (omega arith) ∙ off 0 s refl)
      ∙ none-through w (n + 1) ss (λ i t at. ap (λ m. P (numbered w m t)) (omega arith) ∙ off (suc i) t at)

  one-through : (w n j : ℕ) (ss : List Saying) (s : Saying) → slice_get ss j ≡ Some s → P (numbered w (n + j) s) ≡ true
      → ((i : ℕ) (t : Saying) → (i ≡ j → ⊥) → slice_get ss i ≡ Some t → P (numbered w (n + i) t) ≡ false) → filter P (numbered_from w n ss) ≡ numbered w (n + j) s ∷ []
  one-through w n j [] s at is off = absurd (grind (arith, at))
  one-through w n zero (x ∷ ss) s at is off =
      let same : x ≡ s = grind (arith, at) in
      let here : P (numbered w n x) ≡ true = ap P (λ i. numbered w (place i) (same i)) ∙ is in
      kept (numbered w n x) (numbered_from w (n + 1) ss) here
      ∙ ap (λ l. numbered w n x ∷ l) (none-through w (n + 1) ss (λ i t there. ap (λ m. P (numbered w m t)) (omega arith) ∙ off (suc i) t (λ e. omega (arith, e)) there))
      ∙ ap (λ e. e ∷ []) (λ i. numbered w (place i) (same i))
    where
      place : n ≡ n + 0
      place = omega arith
  one-through w n (suc j) (x ∷ ss) s at is off =
      skipped (numbered w n x) (numbered_from w (n + 1) ss) (ap (λ m. P (numbered w m x)) (omega arith) ∙ off 0 x (λ e. omega (arith, e)) refl)
      ∙ one-through w (n + 1) j ss s at (ap (λ m. P (numbered w m s)) (omega arith) ∙ is) (λ i t apart there. ap (λ m. P (numbered w m t)) (omega arith) ∙ off (suc i) t (λ e. apart (omega (arith, e))) there)
      ∙ ap (λ m. numbered w m s ∷ []) (omega arith)

  -- ---- among those of workers in turn

  module _ (v : ℕ) (others : (w i : ℕ) (s : Saying) → (w ≡ v → ⊥) → P (numbered w i s) ≡ false) where
    other-through : (w : ℕ) (ss : List Saying) → (w ≡ v → ⊥) → filter P (numbered_from w 0 ss) ≡ []
    other-through w ss apart = none-through w 0 ss (λ i s at. others w (0 + i) s apart)

    later-through : (u : ℕ) (ms : Members) → v < u → filter P (in_turn u ms) ≡ []
    later-through u [] lt = refl
    later-through u (m ∷ ms) lt =
        filter-append P (numbered_from u 0 m.sayings) (in_turn (u + 1) ms)
        ∙ (λ i. other-through u m.sayings (λ e. omega (arith, e, lt)) i ++ later-through (u + 1) ms (omega (arith, lt)) i)

    turn-through : (u d : ℕ) (ms : Members) → u + d ≡ v → filter P (in_turn u ms) ≡ filter P (numbered_from v 0 (sayings_of ms d))
    turn-through u d [] e = refl
    turn-through u zero (m ∷ ms) e =
        let same : u ≡ v = omega (arith, e) in
        filter-append P (numbered_from u 0 m.sayings) (in_turn (u + 1) ms)
        ∙ (λ i. filter P (numbered_from (same i) 0 m.sayings) ++ later-through (u + 1) ms (omega (arith, e)) i)
        ∙ append-nil (filter P (numbered_from v 0 m.sayings))
    turn-through u (suc d) (m ∷ ms) e =
        filter-append P (numbered_from u 0 m.sayings) (in_turn (u + 1) ms)
        ∙ (λ i. other-through u m.sayings (λ same. omega (arith, e, same)) i ++ turn-through (u + 1) d ms (omega (arith, e)) i)

-- ---- in the text

-- one test behind another
twice : (P Q : Numbered → Bool) (xs : List Numbered) → filter P (filter Q xs) ≡ filter Q (filter P xs)
twice P Q [] = refl
twice P Q (x ∷ xs) = by (P x) (Q x) refl refl (twice P Q xs)
  where
    by : (p q : Bool) → P x ≡ p → Q x ≡ q → filter P (filter Q xs) ≡ filter Q (filter P xs) → filter P (filter Q (x ∷ xs)) ≡ filter Q (filter P (x ∷ xs))
    by true true p q more = ap (filter P) (kept Q x xs q) ∙ kept P x (filter Q xs) p ∙ ap (λ l. x ∷ l) more ∙ sym (ap (filter Q) (kept P x xs p) ∙ kept Q x (filter P xs) q)
    by true false p q more = ap (filter P) (skipped Q x xs q) ∙ more ∙ sym (ap (filter Q) (kept P x xs p) ∙ skipped Q x (filter P xs) q)
    by false true p q more = ap (filter P) (kept Q x xs q) ∙ skipped P x (filter Q xs) p ∙ more ∙ sym (ap (filter Q) (skipped P x xs p))
    by false false p q more = ap (filter P) (skipped Q x xs q) ∙ more ∙ sym (ap (filter Q) (skipped P x xs p))

data AtMostOne (xs : List Numbered) : Type 0 where
  is_none : xs ≡ [] → AtMostOne xs
  is_one : (x : Numbered) → xs ≡ x ∷ [] → AtMostOne xs

abbrev behind : Numbered → Bool
behind e = not (is_initial e)

-- the initial ones, and then the others
parted : (xs : List Numbered) → AtMostOne xs → filter is_initial xs ++ filter behind xs ≡ xs
parted xs (is_none e) = subst (λ l. filter is_initial l ++ filter behind l ≡ l) (sym e) refl
parted xs (is_one x e) = subst (λ l. filter is_initial l ++ filter behind l ≡ l) (sym e) (by (is_initial x) refl)
  where
    by : (b : Bool) → is_initial x ≡ b → filter is_initial (x ∷ []) ++ filter behind (x ∷ []) ≡ x ∷ []
    by true e = λ i. kept is_initial x [] e i ++ skipped behind x [] (ap not e) i
    by false e = λ i. skipped is_initial x [] e i ++ kept behind x [] (ap not e) i

module _ (P : Numbered → Bool) where
  own-parts : (own : Member) (named : Members)
      → filter P (in_text (own ∷ named))
      ≡ (filter is_initial (filter P (numbered_from 0 0 own.sayings)) ++ filter P (in_turn 1 named)) ++ filter behind (filter P (numbered_from 0 0 own.sayings))
  own-parts own named =
      filter-append P (filter is_initial xs ++ in_turn 1 named) (filter behind xs)
      ∙ (λ i. filter-append P (filter is_initial xs) (in_turn 1 named) i ++ twice P behind xs i)
      ∙ (λ i. (twice P is_initial xs i ++ filter P (in_turn 1 named)) ++ filter behind (filter P xs))
    where
      xs : List Numbered
      xs = numbered_from 0 0 own.sayings

  text-through : (v : ℕ) → ((w i : ℕ) (s : Saying) → (w ≡ v → ⊥) → P (numbered w i s) ≡ false) → (ms : Members)
      → AtMostOne (filter P (numbered_from v 0 (sayings_of ms v))) → filter P (in_text ms) ≡ filter P (numbered_from v 0 (sayings_of ms v))
  text-through v others [] few = refl
  text-through zero others (own ∷ named) few =
      let f : List Numbered = filter P (numbered_from 0 0 own.sayings) in
      own-parts own named
      ∙ (λ i. (filter is_initial f ++ later-through P 0 others 1 named (omega arith) i) ++ filter behind f)
      ∙ (λ i. append-nil (filter is_initial f) i ++ filter behind f)
      ∙ parted f few
  text-through (suc d) others (own ∷ named) few =
      let nothing : filter P (numbered_from 0 0 own.sayings) ≡ [] = other-through P (suc d) others 0 own.sayings (λ e. omega (arith, e)) in
      own-parts own named
      ∙ (λ i. (filter is_initial (nothing i) ++ turn-through P (suc d) others 1 d named (omega arith) i) ++ filter behind (nothing i))
      ∙ append-nil (filter P (numbered_from (suc d) 0 (sayings_of named d)))

-- ---- the k-th on a side

module _ (ms : Members) (side : Side) (w k : ℕ) where
  abbrev is_nth : Numbered → Bool
  is_nth e = (e.worker == w) && (is_on side e.saying.kind && (before (is_on side) (kinds_of ms w) e.number == k))

  elsewhere : (v i : ℕ) (s : Saying) → (v ≡ w → ⊥) → is_nth (numbered v i s) ≡ false
  elsewhere v i s apart = ap (λ b. b && (is_on side s.kind && (before (is_on side) (kinds_of ms w) i == k))) (ne_eqb v w apart)

  -- what the test lets through is the k-th
  as-nth : (i : ℕ) (s : Saying) → slice_get (sayings_of ms w) i ≡ Some s → is_nth (numbered w i s) ≡ true → IsNth (is_on side) (kinds_of ms w) k i
  as-nth i s at is =
      let parts = and_parts _ _ (and_parts _ _ is).1 in
      (subst (λ o. IsSomeAnd o (λ e. is_on side e ≡ true)) (sym (kind-there ms w i s at)) parts.0, eqb-true _ _ parts.1)

  passes : (i : ℕ) (s : Saying) → slice_get (sayings_of ms w) i ≡ Some s → IsNth (is_on side) (kinds_of ms w) k i → is_nth (numbered w i s) ≡ true
  passes i s at nth =
      let on : is_on side s.kind ≡ true = subst (λ o. IsSomeAnd o (λ e. is_on side e ≡ true)) (kind-there ms w i s at) nth.0 in
      and_from _ _ (eq-eqb w w refl) (and_from _ _ on (eq-eqb _ _ nth.1))

  -- there is no more than one
  same-nth : (i j : ℕ) → IsNth (is_on side) (kinds_of ms w) k i → IsNth (is_on side) (kinds_of ms w) k j → i ≡ j
  same-nth i j a b =
      let first = not-before (is_on side) (kinds_of ms w) k j i b (omega (arith, a.1)) in
      let second = not-before (is_on side) (kinds_of ms w) k i j a (omega (arith, b.1)) in
      omega (arith, first, second)

  counted : (i : ℕ) → 0 + i ≡ i
  counted i = omega arith

  none-is : ((i : ℕ) → ¬ IsNth (is_on side) (kinds_of ms w) k i) → filter is_nth (numbered_from w 0 (sayings_of ms w)) ≡ []
  none-is none = none-through is_nth w 0 (sayings_of ms w) (λ i s at. ap (λ m. is_nth (numbered w m s)) (counted i) ∙ false_from_ne_true _ (λ is. none i (as-nth i s at is)))

  one-is : (j : ℕ) (s : Saying) → slice_get (sayings_of ms w) j ≡ Some s → IsNth (is_on side) (kinds_of ms w) k j → filter is_nth (numbered_from w 0 (sayings_of ms w)) ≡ numbered w j s ∷ []
  one-is j s at nth =
      one-through is_nth w 0 j (sayings_of ms w) s at (ap (λ m. is_nth (numbered w m s)) (counted j) ∙ passes j s at nth)
      (λ i t apart there. ap (λ m. is_nth (numbered w m t)) (counted i) ∙ false_from_ne_true _ (λ is. apart (same-nth i j (as-nth i t there is) nth)))
      ∙ ap (λ m. numbered w m s ∷ []) (counted j)

  pub nth-through : (o : Option Found) → IsNthFound ms w side k o → filter is_nth (in_text ms) ≡ listed w o
  nth-through (Some f) found =
      let one = one-is f.number _ found.said found.nth in
      text-through is_nth w elsewhere ms (is_one _ one) ∙ one
  nth-through None none = let e = none-is none in text-through is_nth w elsewhere ms (is_none e) ∙ e

pub send-through : (ms : Members) (v w k : ℕ) (o : Option Found) → IsNthFound ms v (SentTo w) k o → filter (is_nth_send ms (v, w) k) (in_text ms) ≡ listed v o
send-through ms v w k o h = nth-through ms (SentTo w) v k o h

pub receive-through : (ms : Members) (v w k : ℕ) (o : Option Found) → IsNthFound ms w (ReceivedFrom v) k o → filter (is_nth_receive ms (v, w) k) (in_text ms) ≡ listed w o
receive-through ms v w k o h = nth-through ms (ReceivedFrom v) w k o h
