-- Pairs that stand in front, one list of them behind another.
use Rattle.std.proofs.Common.{◌≡◌, ◌∙◌, ◌≤◌, ◌+◌, ◌-◌, ◌==◌, ◌++◌, ◌↔◌, ℕ, zero, suc, Bool, true, false, IsTrue, List, [], ◌∷◌, Option, Some, None, length, take, drop, refl, sym, subst, ap, append_assoc, arith}
use Rattle.std.specs.Prelude.{filter, if◌then◌else◌, not, slice_get}
use Rattle.std.specs.List.{flat_map}
use Rattle.std.proofs.lemmas.Bool.{and_from, and_parts, eq-eqb, eqb-true, false≢true}
use Rattle.std.proofs.lemmas.Grind.{flat_map-append}
use Rattle.std.proofs.lemmas.List.{append-nil, append_cancel_left, take-append-drop, take_all}
use Rattle.std.proofs.lemmas.List.Elements.{filter-append}
use Rattle.bal_base.specs.declared.fault.Event.{Event}
use Rattle.typed_tree.specs.declared.event.Pair.{Pair}
use Rattle.worker_pairing.specs.Faults.{pairs_of}
use Rattle.worker_pairing.specs.Marks.{Members, Numbered, Saying, in_turn, is_initial, numbered_from}
use Rattle.worker_partners.specs.Partners.{sayings_of}
use Rattle.worker_plans.specs.Sends.{pairs_at, same_event, same_pair}
use Rattle.plan_checks.specs.declared.pairs.Part.{Part}
use Rattle.plan_checks.specs.declared.pairs.Part.TheVariants.{All, Initial, Rest}
use Rattle.plan_checks.specs.Stripping.{Strips, in_part, numbered, one_event, pairs_in}
use Rattle.plan_checks.proofs.Counting.{length-numbered}

-- ---- one list behind another

module _ (a b given mid : List Pair) where
  pub strips-both : (r : Option (List Pair)) → given ≡ a ++ mid → Strips b mid r → Strips (a ++ b) given r
  strips-both (Some rest) first then_rest = first ∙ ap (λ l. a ++ l) then_rest ∙ sym (append_assoc a b rest)
  strips-both None first none = λ rest same. none rest (append_cancel_left a mid (b ++ rest) (sym first ∙ same ∙ append_assoc a b rest))

pub strips-none : (a b given : List Pair) → Strips a given None → Strips (a ++ b) given None
strips-none a b given none = λ rest same. none (b ++ rest) (same ∙ append_assoc a b rest)

-- ---- one pair

event-same : (a b : Event) → same_event a b ≡ true → a ≡ b
event-same a b is =
    let one = and_parts _ _ is in
    let two = and_parts _ _ one.1 in
    let three = and_parts _ _ two.1 in
    let worker : a.worker ≡ b.worker = eqb-true _ _ one.0 in
    let number : a.number ≡ b.number = eqb-true _ _ two.0 in
    let file : a.at.file ≡ b.at.file = eqb-true _ _ three.0 in
    let at : a.at.at ≡ b.at.at = eqb-true _ _ three.1 in
    (λ i. record { worker = worker i; number = number i; at = record { file = file i; at = at i } })

event-itself : (a : Event) → same_event a a ≡ true
event-itself a = and_from _ _ (eq-eqb a.worker a.worker refl) (and_from _ _ (eq-eqb a.number a.number refl) (and_from _ _ (eq-eqb a.at.file a.at.file refl) (eq-eqb a.at.at a.at.at refl)))

pair-same : (a b : Pair) → same_pair a b ≡ true → a ≡ b
pair-same a b is =
    let parts = and_parts _ _ is in
    (λ i. record { send = event-same a.send b.send parts.0 i; receive = event-same a.receive b.receive parts.1 i })

pair-itself : (a b : Pair) → a ≡ b → same_pair a b ≡ true
pair-itself a b e = subst (λ x. same_pair a x ≡ true) e (and_from _ _ (event-itself a.send) (event-itself a.receive))

pub strips-one : (given rest : List Pair) (first due : Pair) (b : Bool) (o : Option (List Pair)) → given ≡ first ∷ rest → b ≡ same_pair first due → o ≡ (if b then Some rest else None) → Strips (due ∷ []) given o
strips-one given rest first due b o is test so = subst (Strips (due ∷ []) given) (sym so) (by b (sym test))
  where
    heads : (x y : Pair) (xs ys : List Pair) → x ∷ xs ≡ y ∷ ys → x ≡ y
    heads x y xs ys e = grind (arith, e)

    by : (b : Bool) → same_pair first due ≡ b → Strips (due ∷ []) given (if b then Some rest else None)
    by true same = is ∙ ap (λ x. x ∷ rest) (pair-same first due same)
    by false off = λ others e. absurd (false≢true (sym off ∙ pair-itself first due (heads first due rest others (sym is ∙ e))))

pub strips-empty : (given : List Pair) (due : Pair) → given ≡ [] → Strips (due ∷ []) given None
strips-empty given due is = λ others e. absurd (by others (sym is ∙ e))
  where
    by : (others : List Pair) → [] ≡ due ∷ others → ⊥
    by others e = grind (arith, e)

-- ---- one event, if it is in the part

module _ (ms : Members) (p : Part) (e : Numbered) (given : List Pair) (o : Option (List Pair)) where
  pub strips-in : in_part p e ≡ true → Strips (pairs_at ms e) given o → Strips (pairs_in ms p (e ∷ [])) given o
  strips-in is = subst (λ l. Strips l given o) (sym (ap (λ b. flat_map (pairs_at ms) (if b then e ∷ [] else [])) is ∙ append-nil (pairs_at ms e)))

pub strips-out : (ms : Members) (p : Part) (e : Numbered) (given : List Pair) → in_part p e ≡ false → Strips (pairs_in ms p (e ∷ [])) given (Some given)
strips-out ms p e given is = sym (ap (λ b. flat_map (pairs_at ms) (if b then e ∷ [] else []) ++ given) is)

-- ---- the events of a worker, one behind another

later-part : (ms : Members) (p : Part) (xs ys : List Numbered) → pairs_in ms p (xs ++ ys) ≡ pairs_in ms p xs ++ pairs_in ms p ys
later-part ms p xs ys = ap (flat_map (pairs_at ms)) (filter-append (in_part p) xs ys) ∙ flat_map-append (pairs_at ms) (filter (in_part p) xs) (filter (in_part p) ys)

take-one : (w n : ℕ) (ss : List Saying) (i : ℕ) → take (suc i) (numbered_from w n ss) ≡ take i (numbered_from w n ss) ++ one_event w (n + i) (slice_get ss i)
take-one w n [] zero = refl
take-one w n [] (suc i) = refl
take-one w n (s ∷ ss) zero = let place : n ≡ n + 0 = omega arith in ap (λ k. numbered w k s ∷ []) place
take-one w n (s ∷ ss) (suc i) =
    let place : n + 1 + i ≡ n + suc i = omega arith in
    ap (λ l. numbered w n s ∷ l) (take-one w (n + 1) ss i ∙ ap (λ k. take i (numbered_from w (n + 1) ss) ++ one_event w k (slice_get ss i)) place)

module _ (ms : Members) (p : Part) (w : ℕ) where
  abbrev pub events : List Numbered
  events = numbered_from w 0 (sayings_of ms w)

  abbrev pub due_at : ℕ → List Pair
  due_at i = pairs_in ms p (one_event w i (slice_get (sayings_of ms w) i))

  -- the pairs of the first so many events
  abbrev pub due_to : ℕ → List Pair
  due_to i = pairs_in ms p (take i events)

  pub due-next : (i : ℕ) → due_to (i + 1) ≡ due_to i ++ due_at i
  due-next i =
      let next : i + 1 ≡ suc i = omega arith in
      let place : 0 + i ≡ i = omega arith in
      ap due_to next
      ∙ ap (pairs_in ms p) (take-one w 0 (sayings_of ms w) i ∙ ap (λ k. take i events ++ one_event w k (slice_get (sayings_of ms w) i)) place)
      ∙ later-part ms p (take i events) (one_event w i (slice_get (sayings_of ms w) i))

  pub event-next : (given left : List Pair) (r : List Pair) (i : ℕ) → given ≡ due_to i ++ left → Strips (due_at i) left (Some r) → given ≡ due_to (i + 1) ++ r
  event-next given left r i so here = strips-both (due_to i) (due_at i) given left (Some r) so here ∙ ap (λ l. l ++ r) (sym (due-next i))

  pub event-none : (given left : List Pair) (i : ℕ) → given ≡ due_to i ++ left → Strips (due_at i) left None → Strips (pairs_in ms p events) given None
  event-none given left i so here =
      subst (λ l. Strips l given None) (sym all)
      (strips-none (due_to (i + 1)) (pairs_in ms p (drop (i + 1) events)) given
      (subst (λ l. Strips l given None) (sym (due-next i)) (strips-both (due_to i) (due_at i) given left None so here)))
    where
      all : pairs_in ms p events ≡ due_to (i + 1) ++ pairs_in ms p (drop (i + 1) events)
      all = ap (pairs_in ms p) (sym (take-append-drop (i + 1) events)) ∙ later-part ms p (take (i + 1) events) (drop (i + 1) events)

  pub events-all : (given left : List Pair) (i : ℕ) → length (sayings_of ms w) ≤ i → given ≡ due_to i ++ left → Strips (pairs_in ms p events) given (Some left)
  events-all given left i le so =
      let long = length-numbered w 0 (sayings_of ms w) in
      so ∙ ap (λ es. pairs_in ms p es ++ left) (take_all i events (omega (arith, long, le)))

-- ---- the named workers, one behind another

turn-one : (u : ℕ) (ms : Members) (k : ℕ) → in_turn u (take (suc k) ms) ≡ in_turn u (take k ms) ++ numbered_from (u + k) 0 (sayings_of ms k)
turn-one u [] zero = refl
turn-one u [] (suc k) = refl
turn-one u (m ∷ ms) zero = let place : u ≡ u + 0 = omega arith in append-nil (numbered_from u 0 m.sayings) ∙ ap (λ v. numbered_from v 0 m.sayings) place
turn-one u (m ∷ ms) (suc k) =
    let place : u + 1 + k ≡ u + suc k = omega arith in
    ap (λ l. numbered_from u 0 m.sayings ++ l) (turn-one (u + 1) ms k)
    ∙ sym (append_assoc (numbered_from u 0 m.sayings) (in_turn (u + 1) (take k ms)) (numbered_from (u + 1 + k) 0 (sayings_of ms k)))
    ∙ ap (λ v. (numbered_from u 0 m.sayings ++ in_turn (u + 1) (take k ms)) ++ numbered_from v 0 (sayings_of ms k)) place

turn-parts : (u : ℕ) (ms : Members) (k : ℕ) → (more : List Numbered) × (in_turn u ms ≡ in_turn u (take k ms) ++ more)
turn-parts u [] zero = ([], refl)
turn-parts u [] (suc k) = ([], refl)
turn-parts u (m ∷ ms) zero = (in_turn u (m ∷ ms), refl)
turn-parts u (m ∷ ms) (suc k) =
    let rest = turn-parts (u + 1) ms k in
    (rest.0, ap (λ l. numbered_from u 0 m.sayings ++ l) rest.1 ∙ sym (append_assoc (numbered_from u 0 m.sayings) (in_turn (u + 1) (take k ms)) rest.0))

said-behind : (ms : Members) (k : ℕ) → sayings_of (drop 1 ms) k ≡ sayings_of ms (suc k)
said-behind [] k = refl
said-behind (m ∷ ms) k = refl

all-in : (xs : List Numbered) → filter (in_part All) xs ≡ xs
all-in [] = refl
all-in (x ∷ xs) = ap (λ l. x ∷ l) (all-in xs)

module _ (ms : Members) where
  abbrev pub named : Members
  named = drop 1 ms

  -- the pairs of the workers before this one
  abbrev pub named_to : ℕ → List Pair
  named_to w = flat_map (pairs_at ms) (in_turn 1 (take (w - 1) named))

  named-next : (w : ℕ) → 1 ≤ w → named_to (w + 1) ≡ named_to w ++ pairs_in ms All (events ms All w)
  named-next zero le = absurd (omega (arith, le))
  named-next (suc k) le =
      let more : suc k + 1 - 1 ≡ suc k = omega arith in
      let less : suc k - 1 ≡ k = omega arith in
      let place : 1 + k ≡ suc k = omega arith in
      ap (λ n. flat_map (pairs_at ms) (in_turn 1 (take n named))) more
      ∙ ap (flat_map (pairs_at ms)) (turn-one 1 named k ∙ (λ i. in_turn 1 (take k named) ++ numbered_from (place i) 0 (said-behind ms k i)))
      ∙ flat_map-append (pairs_at ms) (in_turn 1 (take k named)) (numbered_from (suc k) 0 (sayings_of ms (suc k)))
      ∙ (λ i. flat_map (pairs_at ms) (in_turn 1 (take (sym less i) named)) ++ flat_map (pairs_at ms) (sym (all-in (numbered_from (suc k) 0 (sayings_of ms (suc k)))) i))

  pub worker-next : (given left r : List Pair) (w : ℕ) → 1 ≤ w → given ≡ named_to w ++ left → Strips (pairs_in ms All (events ms All w)) left (Some r) → given ≡ named_to (w + 1) ++ r
  worker-next given left r w le so here = strips-both (named_to w) (pairs_in ms All (events ms All w)) given left (Some r) so here ∙ ap (λ l. l ++ r) (sym (named-next w le))

  pub worker-none : (given left : List Pair) (w : ℕ) → 1 ≤ w → given ≡ named_to w ++ left → Strips (pairs_in ms All (events ms All w)) left None
      → Strips (flat_map (pairs_at ms) (in_turn 1 named)) given None
  worker-none given left w le so here =
      let parts = turn-parts 1 named (w + 1 - 1) in
      subst (λ l. Strips l given None) (sym (ap (flat_map (pairs_at ms)) parts.1 ∙ flat_map-append (pairs_at ms) (in_turn 1 (take (w + 1 - 1) named)) parts.0))
      (strips-none (named_to (w + 1)) (flat_map (pairs_at ms) parts.0) given
      (subst (λ l. Strips l given None) (sym (named-next w le)) (strips-both (named_to w) (pairs_in ms All (events ms All w)) given left None so here)))

  long-named : (ms : Members) (w : ℕ) → length ms ≤ w → length (drop 1 ms) ≤ w - 1
  long-named [] w le = omega arith
  long-named (m ∷ ms) w le = omega (arith, le)

  pub named-all : (given left : List Pair) (w : ℕ) → length ms ≤ w → given ≡ named_to w ++ left → Strips (flat_map (pairs_at ms) (in_turn 1 named)) given (Some left)
  named-all given left w le so = so ∙ ap (λ l. flat_map (pairs_at ms) (in_turn 1 l) ++ left) (take_all (w - 1) named (long-named ms w le))

-- ---- all events of the text

pub text-parts : (ms : Members)
    → pairs_of ms ≡ (pairs_in ms Initial (events ms Initial 0) ++ flat_map (pairs_at ms) (in_turn 1 (drop 1 ms))) ++ pairs_in ms Rest (events ms Rest 0)
text-parts [] = refl
text-parts (own ∷ rest) =
    let xs : List Numbered = numbered_from 0 0 own.sayings in
    flat_map-append (pairs_at (own ∷ rest)) (filter is_initial xs ++ in_turn 1 rest) (filter (λ e. not (is_initial e)) xs)
    ∙ ap (λ l. l ++ flat_map (pairs_at (own ∷ rest)) (filter (λ e. not (is_initial e)) xs)) (flat_map-append (pairs_at (own ∷ rest)) (filter is_initial xs) (in_turn 1 rest))

-- ---- none but those that are due

module _ (due given : List Pair) where
  pub none-left : (left : List Pair) (b : Bool) → given ≡ due ++ left → IsTrue b ↔ left ≡ [] → IsTrue b ↔ given ≡ due
  none-left left b so both = (
    λ h. so ∙ ap (λ l. due ++ l) (both.0 h) ∙ append-nil due,
    λ same. both.1 (append_cancel_left due left [] (sym so ∙ same ∙ sym (append-nil due))),
  )

  pub none-strip : Strips due given None → IsTrue false ↔ given ≡ due
  none-strip none = (λ h. absurd (false≢true h), λ same. absurd (none [] (same ∙ sym (append-nil due))))

pub empty-so : (left : List Pair) (b : Bool) → b ≡ (length left == 0) → IsTrue b ↔ left ≡ []
empty-so left b is = (λ h. nil left (eqb-true (length left) 0 (sym is ∙ h)), λ none. is ∙ eq-eqb (length left) 0 (ap length none))
  where
    nil : (l : List Pair) → length l ≡ 0 → l ≡ []
    nil [] e = refl
    nil (x ∷ l) e = absurd (omega (arith, e))

-- ---- all three parts

module _ (ms : Members) (given : List Pair) where
  abbrev pub initial_due : List Pair
  initial_due = pairs_in ms Initial (events ms Initial 0)

  abbrev pub named_due : List Pair
  named_due = flat_map (pairs_at ms) (in_turn 1 (drop 1 ms))

  abbrev pub rest_due : List Pair
  rest_due = pairs_in ms Rest (events ms Rest 0)

  in-text : (o : Option (List Pair)) → Strips ((initial_due ++ named_due) ++ rest_due) given o → Strips (pairs_of ms) given o
  in-text o = subst (λ l. Strips l given o) (sym (text-parts ms))

  pub no-initial : Strips initial_due given None → Strips (pairs_of ms) given None
  no-initial none = in-text None (strips-none (initial_due ++ named_due) rest_due given (strips-none initial_due named_due given none))

  pub no-named : (mid : List Pair) → given ≡ initial_due ++ mid → Strips named_due mid None → Strips (pairs_of ms) given None
  no-named mid first none = in-text None (strips-none (initial_due ++ named_due) rest_due given (strips-both initial_due named_due given mid None first none))

  pub all-three : (mid later : List Pair) (o : Option (List Pair)) → given ≡ initial_due ++ mid → mid ≡ named_due ++ later → Strips rest_due later o → Strips (pairs_of ms) given o
  all-three mid later o first second third =
      in-text o (strips-both (initial_due ++ named_due) rest_due given later o (strips-both initial_due named_due given mid (Some later) first second) third)
