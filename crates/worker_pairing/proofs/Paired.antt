-- Where no send and no receive is left over each worker receives as many messages as are sent to it.
use Rattle.std.proofs.Common.{◌≡◌, ◌<◌, ◌≤◌, ◌⊎◌, ℕ, zero, suc, ◌+◌, List, [], ◌∷◌, ◌++◌, Some, None, map, refl, sym, subst, ap, inl, inr, ◌∙◌, arith, true, false}
use Rattle.std.specs.Prelude.{◌==◌, ◌&&◌, ◌||◌, Bool, if◌then◌else◌, IsSomeAnd, Contains, filter, get_or, length, nat_le, nat_lt, not, slice_get}
use Rattle.std.proofs.lemmas.Bool.{cases_lt, eq-eqb, eqb-true, false≢true, false_from_ne_true, le-leb}
use Rattle.typed_tree.specs.declared.event.EventKind.{EventKind}
use Rattle.typed_tree.specs.declared.event.EventKind.TheVariants.{Send, Post, Done, Receive, Flush, Wait, End}
use Rattle.worker_pairing.specs.Events.{before, receives_from, sends_to}
use Rattle.worker_pairing.specs.Faults.{is_left, is_other, names_other, is_unpaired, kinds_of, place_on, other_side, received_in, route, sent_in}
use Rattle.worker_pairing.specs.Laws.{AllPaired, PairsUp}
use Rattle.worker_pairing.specs.Marks.{Members, Numbered, Saying, in_text, in_turn, is_initial, kinds, numbered_from}
use Rattle.worker_pairing.proofs.Counts.{nth-there}

-- ---- each event stands in the text

pub in-front : {A : Type 0} (x : A) (xs : List A) (a : A) → Contains xs a → Contains (x ∷ xs) a
in-front x xs a (k, lt, same) = (suc k, omega (arith, lt), same)

pub behind : {A : Type 0} (xs ys : List A) (a : A) → Contains ys a → Contains (xs ++ ys) a
behind [] ys a h = h
behind (x ∷ xs) ys a h = in-front x (xs ++ ys) a (behind xs ys a h)

pub before-others : {A : Type 0} (xs ys : List A) (a : A) → Contains xs a → Contains (xs ++ ys) a
before-others [] ys a (k, lt, same) = absurd (omega (arith, lt))
before-others (x ∷ xs) ys a (zero, lt, same) = (zero, omega arith, same)
before-others (x ∷ xs) ys a (suc k, lt, same) = in-front x (xs ++ ys) a (before-others xs ys a (k, omega (arith, lt), same))

-- what a test lets through is there
kept-one : {A : Type 0} (b : Bool) (f : A → Bool) (x : A) (xs : List A) (a : A) → f x ≡ b → Contains (filter f xs) a → Contains (filter f (x ∷ xs)) a
kept-one true f x xs a e h = subst (λ z. Contains (if z then x ∷ filter f xs else filter f xs) a) (sym e) (in-front x (filter f xs) a h)
kept-one false f x xs a e h = subst (λ z. Contains (if z then x ∷ filter f xs else filter f xs) a) (sym e) h

pub filtered : {A : Type 0} (f : A → Bool) (xs : List A) (a : A) → Contains xs a → f a ≡ true → Contains (filter f xs) a
filtered f [] a (k, lt, same) e = absurd (omega (arith, lt))
filtered f (x ∷ xs) a (zero, lt, same) e =
    let is : f x ≡ true = ap f same ∙ e in
    subst (λ z. Contains (if z then x ∷ filter f xs else filter f xs) a) (sym is) (zero, omega arith, same)
filtered f (x ∷ xs) a (suc k, lt, same) e = kept-one (f x) f x xs a refl (filtered f xs a (k, omega (arith, lt), same) e)

abbrev pub numbered : (w j : ℕ) (s : Saying) → Numbered
numbered w j s = record { worker = w; number = j; saying = s }

there : (w n j : ℕ) (ss : List Saying) (P : EventKind → Type 0) → IsSomeAnd (slice_get (map (λ s. s.kind) ss) j) P
    → (s : Saying) × Contains (numbered_from w n ss) (record { worker = w; number = n + j; saying = s }) × P s.kind
there w n zero [] P h = absurd h
there w n (suc j) [] P h = absurd h
there w n zero (s ∷ ss) P h = (s, (0, omega arith, ap (λ m. record { worker = w; number = m; saying = s }) (omega arith)), h)
there w n (suc j) (s ∷ ss) P h =
    let more = there w (n + 1) j ss P h in
    (more.0, in-front _ _ _ (subst (λ m. Contains (numbered_from w (n + 1) ss) (record { worker = w; number = m; saying = more.0 })) (omega arith) more.1), more.2)

turn-there : (w v j : ℕ) (ms : Members) (P : EventKind → Type 0) → IsSomeAnd (slice_get (get_or (map kinds ms) v []) j) P
    → (s : Saying) × Contains (in_turn w ms) (record { worker = w + v; number = j; saying = s }) × P s.kind
turn-there w v zero [] P h = absurd h
turn-there w v (suc j) [] P h = absurd h
turn-there w zero j (m ∷ ms) P h =
    let found = there w 0 j m.sayings P h in
    (found.0, before-others (numbered_from w 0 m.sayings) (in_turn (w + 1) ms) _ (subst (λ x. Contains (numbered_from w 0 m.sayings) (record { worker = x; number = j; saying = found.0 })) (omega arith) (subst (λ x. Contains (numbered_from w 0 m.sayings) (record { worker = w; number = x; saying = found.0 })) (omega arith) found.1)), found.2)
turn-there w (suc v) j (m ∷ ms) P h =
    let found = turn-there (w + 1) v j ms P h in
    (found.0, behind (numbered_from w 0 m.sayings) (in_turn (w + 1) ms) _ (subst (λ x. Contains (in_turn (w + 1) ms) (record { worker = x; number = j; saying = found.0 })) (omega arith) found.1), found.2)

text-there : (v j : ℕ) (ms : Members) (P : EventKind → Type 0) → IsSomeAnd (slice_get (get_or (map kinds ms) v []) j) P
    → (s : Saying) × Contains (in_text ms) (record { worker = v; number = j; saying = s }) × P s.kind
text-there v zero [] P h = absurd h
text-there v (suc j) [] P h = absurd h
text-there zero j (m ∷ ms) P h =
    let found = there 0 0 j m.sayings P h in
    let own : Contains (numbered_from 0 0 m.sayings) (numbered 0 j found.0) = subst (λ x. Contains (numbered_from 0 0 m.sayings) (record { worker = 0; number = x; saying = found.0 })) (omega arith) found.1 in
    (found.0, by (numbered 0 j found.0) own (is_initial (numbered 0 j found.0)) refl, found.2)
  where
    by : (a : Numbered) → Contains (numbered_from 0 0 m.sayings) a → (b : Bool) → is_initial a ≡ b → Contains (in_text (m ∷ ms)) a
    by a h true e = before-others (filter is_initial (numbered_from 0 0 m.sayings) ++ in_turn 1 ms) _ a (before-others (filter is_initial (numbered_from 0 0 m.sayings)) (in_turn 1 ms) a (filtered is_initial (numbered_from 0 0 m.sayings) a h e))
    by a h false e = behind (filter is_initial (numbered_from 0 0 m.sayings) ++ in_turn 1 ms) _ a (filtered (λ x. not (is_initial x)) (numbered_from 0 0 m.sayings) a h (ap not e))
text-there (suc v) j (m ∷ ms) P h =
    let found = turn-there 1 v j ms P h in
    let named : Contains (in_turn 1 ms) (numbered (suc v) j found.0) = subst (λ x. Contains (in_turn 1 ms) (record { worker = x; number = j; saying = found.0 })) (omega arith) found.1 in
    (found.0, before-others (filter is_initial (numbered_from 0 0 m.sayings) ++ in_turn 1 ms) _ _ (behind (filter is_initial (numbered_from 0 0 m.sayings)) (in_turn 1 ms) _ named), found.2)

-- ---- one that is left over

reflexive : (n : ℕ) → nat_le n n ≡ true
reflexive n = by (cases_lt n n)
  where
    by : (n < n) ⊎ (n ≤ n) → nat_le n n ≡ true
    by (inl h) = absurd (omega (arith, h))
    by (inr h) = le-leb n n h

swapped : (v w : ℕ) → (v == w) ≡ false → (w == v) ≡ false
swapped v w h = false_from_ne_true (w == v) (λ e. false≢true (sym h ∙ eq-eqb v w (sym (eqb-true w v e))))

send-route : (v w : ℕ) (e : EventKind) → sends_to w e ≡ true → route v e ≡ Some (v, w)
send-route v w (Send (Some n)) h = ap (λ x. Some (v, x)) (eqb-true n w h)
send-route v w (Post (Some n)) h = ap (λ x. Some (v, x)) (eqb-true n w h)
send-route v w (Send None) h = absurd (false≢true h)
send-route v w (Post None) h = absurd (false≢true h)
send-route v w (Done peer) h = absurd (false≢true h)
send-route v w (Receive peer) h = absurd (false≢true h)
send-route v w (Flush peer) h = absurd (false≢true h)
send-route v w (Wait ws) h = absurd (false≢true h)
send-route v w End h = absurd (false≢true h)

receive-route : (v w : ℕ) (e : EventKind) → receives_from v e ≡ true → (route w e ≡ Some (v, w)) × (e ≡ Receive (Some v))
receive-route v w (Receive (Some n)) h = let e = eqb-true n v h in (ap (λ x. Some (x, w)) e, ap (λ x. Receive (Some x)) e)
receive-route v w (Receive None) h = absurd (false≢true h)
receive-route v w (Send peer) h = absurd (false≢true h)
receive-route v w (Post peer) h = absurd (false≢true h)
receive-route v w (Done peer) h = absurd (false≢true h)
receive-route v w (Flush peer) h = absurd (false≢true h)
receive-route v w (Wait ws) h = absurd (false≢true h)
receive-route v w End h = absurd (false≢true h)

-- who names another worker doesn't name itself
not-own : (workers own peer : ℕ) (initial : Bool) → (initial || not (is_other workers own (Some peer))) ≡ false → (peer == own) ≡ false
not-own workers own peer true h = absurd (false≢true (sym h))
not-own workers own peer false h = by (nat_lt peer workers) (peer == own) h
  where
    by : (b c : Bool) → not (b && not c) ≡ false → c ≡ false
    by true false h = refl
    by true true h = absurd (false≢true (sym h))
    by false c h = absurd (false≢true (sym h))

module _ (ms : Members) (all : AllPaired ms) where
  not-more-sent : (v w : ℕ) → received_in ms v w < sent_in ms v w → ⊥
  not-more-sent v w lt =
      let k = nth-there (sends_to w) (kinds_of ms v) (received_in ms v w) lt in
      let found = text-there v k.0 ms (λ e. sends_to w e ≡ true) k.1.0 in
      let e = numbered v k.0 found.0 in
      let r = send-route v w found.0.kind found.2 in
      let place : place_on ms e (v, w) ≡ received_in ms v w = subst (λ b. (if b then before (sends_to w) (kinds_of ms v) k.0 else before (receives_from v) (kinds_of ms v) k.0) ≡ received_in ms v w) (sym (eq-eqb v v refl)) k.1.1 in
      let other : other_side ms e (v, w) ≡ received_in ms v w = subst (λ b. (if b then received_in ms v w else sent_in ms v w) ≡ received_in ms v w) (sym (eq-eqb v v refl)) refl in
      let left : is_unpaired ms e ≡ true = ap (is_left ms e) r ∙ ap (λ n. nat_le n (place_on ms e (v, w))) other ∙ ap (λ n. nat_le (received_in ms v w) n) place ∙ reflexive (received_in ms v w) in
      false≢true (sym (all.paired e found.1) ∙ left)

  not-more-received : (v w : ℕ) → sent_in ms v w < received_in ms v w → ⊥
  not-more-received v w lt =
      let k = nth-there (receives_from v) (kinds_of ms w) (sent_in ms v w) lt in
      let found = text-there w k.0 ms (λ e. receives_from v e ≡ true) k.1.0 in
      let e = numbered w k.0 found.0 in
      let r = receive-route v w found.0.kind found.2 in
      let apart : (v == w) ≡ false = not-own (length ms) w v found.0.initial (ap (λ x. found.0.initial || not (names_other (length ms) w x)) (sym r.1) ∙ all.peers e found.1) in
      let apart2 : (w == v) ≡ false = swapped v w apart in
      let place : place_on ms e (v, w) ≡ sent_in ms v w = subst (λ b. (if b then before (sends_to w) (kinds_of ms w) k.0 else before (receives_from v) (kinds_of ms w) k.0) ≡ sent_in ms v w) (sym apart2) k.1.1 in
      let other : other_side ms e (v, w) ≡ sent_in ms v w = subst (λ b. (if b then received_in ms v w else sent_in ms v w) ≡ sent_in ms v w) (sym apart2) refl in
      let left : is_unpaired ms e ≡ true = ap (is_left ms e) r.0 ∙ ap (λ n. nat_le n (place_on ms e (v, w))) other ∙ ap (λ n. nat_le (sent_in ms v w) n) place ∙ reflexive (sent_in ms v w) in
      false≢true (sym (all.paired e found.1) ∙ left)

  even : (v w : ℕ) → sent_in ms v w ≡ received_in ms v w
  even v w = by (cases_lt (received_in ms v w) (sent_in ms v w)) (cases_lt (sent_in ms v w) (received_in ms v w))
    where
      by : (received_in ms v w < sent_in ms v w) ⊎ (sent_in ms v w ≤ received_in ms v w) → (sent_in ms v w < received_in ms v w) ⊎ (received_in ms v w ≤ sent_in ms v w) → sent_in ms v w ≡ received_in ms v w
      by (inl h) other = absurd (not-more-sent v w h)
      by (inr h) (inl g) = absurd (not-more-received v w g)
      by (inr h) (inr g) = omega (arith, h, g)

pub pairs-up : PairsUp
pairs-up ms all v w = even ms all v w
