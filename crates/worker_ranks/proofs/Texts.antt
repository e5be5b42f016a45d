-- Each event of the text, and of workers in turn, is one that its worker says.
use Rattle.std.proofs.Common.{◌≡◌, ◌∙◌, ◌⊎◌, ◌+◌, ◌-◌, ◌++◌, ℕ, zero, suc, Bool, true, false, List, [], ◌∷◌, Some, length, refl, sym, subst, ap, inl, inr, arith}
use Rattle.std.specs.Prelude.{All, Contains, filter, if◌then◌else◌, not, slice_get}
use Rattle.std.proofs.lemmas.Bool.{ne_eqb}
use Rattle.std.proofs.lemmas.List.Elements.{All-append, All-filter, All-nil}
use Rattle.worker_pairing.specs.Faults.{kinds_of, start_of}
use Rattle.worker_pairing.proofs.Paired.{before-others, behind, filtered, in-front}
use Rattle.worker_pairing.specs.Marks.{Member, Members, Numbered, Saying, in_text, in_turn, is_initial, numbered_from}
use Rattle.worker_partners.specs.Partners.{sayings_of}
use Rattle.worker_partners.proofs.Texts.{kind-there, numbered}

-- ---- from where an event of a list comes

abbrev pub ComesFrom : ℕ → Members → Numbered → Type 0
ComesFrom u ms e = (w : ℕ) × (i : ℕ) × (s : Saying) × (e ≡ numbered (u + w) i s) × (slice_get (sayings_of ms w) i ≡ Some s)

numbered-comes : (w n : ℕ) (ss : List Saying) → All (λ e. (i : ℕ) × (s : Saying) × (e ≡ numbered w (n + i) s) × (slice_get ss i ≡ Some s)) (numbered_from w n ss)
numbered-comes w n [] k d lt = absurd (omega (arith, lt))
numbered-comes w n (s ∷ ss) zero d lt = (0, s, ap (λ m. numbered w m s) (omega arith), refl)
numbered-comes w n (s ∷ ss) (suc k) d lt =
    let more = numbered-comes w (n + 1) ss k d (omega (arith, lt)) in
    (suc more.0, more.1, more.2 ∙ ap (λ m. numbered w m more.1) (omega arith), more.3)

own-comes : (u : ℕ) (m : Member) (ms : Members) (e : Numbered) → ((i : ℕ) × (s : Saying) × (e ≡ numbered u (0 + i) s) × (slice_get m.sayings i ≡ Some s)) → ComesFrom u (m ∷ ms) e
own-comes u m ms e (i, s, is, at) = (0, i, s, is ∙ (λ k. numbered (place k) (count k) s), at)
  where
    place : u ≡ u + 0
    place = omega arith

    count : 0 + i ≡ i
    count = omega arith

later-comes : (u : ℕ) (m : Member) (ms : Members) (e : Numbered) → ComesFrom (u + 1) ms e → ComesFrom u (m ∷ ms) e
later-comes u m ms e (w, i, s, is, at) = (suc w, i, s, is ∙ ap (λ v. numbered v i s) (omega arith), at)

all-mapped : (P Q : Numbered → Type 0) (xs : List Numbered) → ((e : Numbered) → P e → Q e) → All P xs → All Q xs
all-mapped P Q xs f h k d lt = f _ (h k d lt)

first-comes : (u : ℕ) (m : Member) (ms : Members) → All (ComesFrom u (m ∷ ms)) (numbered_from u 0 m.sayings)
first-comes u m ms = all-mapped _ (ComesFrom u (m ∷ ms)) (numbered_from u 0 m.sayings) (own-comes u m ms) (numbered-comes u 0 m.sayings)

turn-comes : (u : ℕ) (ms : Members) → All (ComesFrom u ms) (in_turn u ms)
turn-comes u [] = All-nil (ComesFrom u [])
turn-comes u (m ∷ ms) =
    All-append (ComesFrom u (m ∷ ms)) (numbered_from u 0 m.sayings) (in_turn (u + 1) ms) (first-comes u m ms)
    (all-mapped (ComesFrom (u + 1) ms) (ComesFrom u (m ∷ ms)) (in_turn (u + 1) ms) (later-comes u m ms) (turn-comes (u + 1) ms))

text-comes : (ms : Members) → All (ComesFrom 0 ms) (in_text ms)
text-comes [] = All-nil (ComesFrom 0 [])
text-comes (m ∷ ms) =
    All-append (ComesFrom 0 (m ∷ ms)) (filter is_initial (numbered_from 0 0 m.sayings) ++ in_turn 1 ms) (filter (λ e. not (is_initial e)) (numbered_from 0 0 m.sayings))
    (All-append (ComesFrom 0 (m ∷ ms)) (filter is_initial (numbered_from 0 0 m.sayings)) (in_turn 1 ms)
    (All-filter is_initial (ComesFrom 0 (m ∷ ms)) (numbered_from 0 0 m.sayings) (first-comes 0 m ms))
    (all-mapped (ComesFrom 1 ms) (ComesFrom 0 (m ∷ ms)) (in_turn 1 ms) (later-comes 0 m ms) (turn-comes 1 ms)))
    (All-filter (λ e. not (is_initial e)) (ComesFrom 0 (m ∷ ms)) (numbered_from 0 0 m.sayings) (first-comes 0 m ms))

-- so its worker has this kind at its number
abbrev pub IsThere : Members → Numbered → Type 0
IsThere ms e = slice_get (kinds_of ms e.worker) e.number ≡ Some e.saying.kind

comes-there : (ms : Members) (e : Numbered) → ComesFrom 0 ms e → IsThere ms e
comes-there ms e (w, i, s, is, at) =
    subst (IsThere ms) (sym (is ∙ ap (λ v. numbered v i s) (omega arith))) (kind-there ms w i s at)

pub text-there : (ms : Members) → All (IsThere ms) (in_text ms)
text-there ms = all-mapped (ComesFrom 0 ms) (IsThere ms) (in_text ms) (comes-there ms) (text-comes ms)

-- ---- where an event stands among those of workers in turn

in-front-of : {X : Type 0} (xs ys : List X) (i : ℕ) (x : X) → slice_get xs i ≡ Some x → slice_get (xs ++ ys) i ≡ Some x
in-front-of [] ys i x at = absurd (grind (arith, at))
in-front-of (y ∷ xs) ys zero x at = at
in-front-of (y ∷ xs) ys (suc i) x at = in-front-of xs ys i x at

behind-all : {X : Type 0} (xs ys : List X) (i : ℕ) → slice_get (xs ++ ys) (length xs + i) ≡ slice_get ys i
behind-all [] ys i = let none : 0 + i ≡ i = omega arith in ap (slice_get ys) none
behind-all (x ∷ xs) ys i =
    let next : suc (length xs) + i ≡ suc (length xs + i) = omega arith in
    ap (slice_get (x ∷ (xs ++ ys))) next ∙ behind-all xs ys i

length-numbered : (w n : ℕ) (ss : List Saying) → length (numbered_from w n ss) ≡ length ss
length-numbered w n [] = refl
length-numbered w n (s ∷ ss) = ap suc (length-numbered w (n + 1) ss)

numbered-at : (w n : ℕ) (ss : List Saying) (i : ℕ) (s : Saying) → slice_get ss i ≡ Some s → slice_get (numbered_from w n ss) i ≡ Some (numbered w (n + i) s)
numbered-at w n [] i s at = absurd (grind (arith, at))
numbered-at w n (x ∷ ss) zero s at = (λ k. Some (numbered w (place k) (same k)))
  where
    place : n ≡ n + 0
    place = omega arith

    same : x ≡ s
    same = grind (arith, at)
numbered-at w n (x ∷ ss) (suc i) s at = numbered-at w (n + 1) ss i s at ∙ ap (λ m. Some (numbered w m s)) (omega arith)

start-later : (m : Member) (ms : Members) (w : ℕ) → start_of (m ∷ ms) (suc w) ≡ length m.sayings + start_of ms w
start-later m ms w =
    let less : suc w - 1 ≡ w = omega arith in
    ap (λ b. if b then 0 else length m.sayings + start_of ms (suc w - 1)) (ne_eqb (suc w) 0 (λ e. omega (arith, e)))
    ∙ ap (λ v. length m.sayings + start_of ms v) less

pub turn-at : (u : ℕ) (ms : Members) (w i : ℕ) (s : Saying) → slice_get (sayings_of ms w) i ≡ Some s → slice_get (in_turn u ms) (start_of ms w + i) ≡ Some (numbered (u + w) i s)
turn-at u [] w i s at = absurd (grind (arith, at))
turn-at u (m ∷ ms) zero i s at =
    ap (slice_get (numbered_from u 0 m.sayings ++ in_turn (u + 1) ms)) place
    ∙ in-front-of (numbered_from u 0 m.sayings) (in_turn (u + 1) ms) i _ (numbered-at u 0 m.sayings i s at)
    ∙ (λ k. Some (numbered (worker k) (place k) s))
  where
    worker : u ≡ u + 0
    worker = omega arith

    place : 0 + i ≡ i
    place = omega arith
turn-at u (m ∷ ms) (suc w) i s at =
    ap (slice_get (numbered_from u 0 m.sayings ++ in_turn (u + 1) ms)) far
    ∙ behind-all (numbered_from u 0 m.sayings) (in_turn (u + 1) ms) (start_of ms w + i)
    ∙ turn-at (u + 1) ms w i s at
    ∙ ap (λ v. Some (numbered v i s)) worker
  where
    worker : u + 1 + w ≡ u + suc w
    worker = omega arith

    far : start_of (m ∷ ms) (suc w) + i ≡ length (numbered_from u 0 m.sayings) + (start_of ms w + i)
    far = let long = length-numbered u 0 m.sayings in let start = start-later m ms w in omega (arith, long, start)

-- ---- and which event stands at a place there

numbered-from-at : (w n : ℕ) (ss : List Saying) (i : ℕ) (e : Numbered) → slice_get (numbered_from w n ss) i ≡ Some e → (e.worker ≡ w) × (e.number ≡ n + i) × (slice_get ss i ≡ Some e.saying)
numbered-from-at w n [] i e at = absurd (grind (arith, at))
numbered-from-at w n (s ∷ ss) zero e at =
    let same : numbered w n s ≡ e = grind (arith, at) in
    let place : n ≡ n + 0 = omega arith in
    (ap (λ x. x.worker) (sym same), ap (λ x. x.number) (sym same) ∙ place, ap (λ x. Some x.saying) same)
numbered-from-at w n (s ∷ ss) (suc i) e at =
    let more = numbered-from-at w (n + 1) ss i e at in
    let place : n + 1 + i ≡ n + suc i = omega arith in
    (more.0, more.1 ∙ place, more.2)

parted-at : {X : Type 0} (xs ys : List X) (i : ℕ) (x : X) → slice_get (xs ++ ys) i ≡ Some x → (slice_get xs i ≡ Some x) ⊎ ((k : ℕ) × (i ≡ length xs + k) × (slice_get ys k ≡ Some x))
parted-at [] ys i x at = let place : i ≡ 0 + i = omega arith in inr (i, place, at)
parted-at (y ∷ xs) ys zero x at = inl at
parted-at (y ∷ xs) ys (suc i) x at = by (parted-at xs ys i x at)
  where
    by : (slice_get xs i ≡ Some x) ⊎ ((k : ℕ) × (i ≡ length xs + k) × (slice_get ys k ≡ Some x)) → (slice_get (y ∷ xs) (suc i) ≡ Some x) ⊎ ((k : ℕ) × (suc i ≡ length (y ∷ xs) + k) × (slice_get ys k ≡ Some x))
    by (inl h) = inl h
    by (inr (k, e, h)) = inr (k, omega (arith, e), h)

abbrev StandsAt : ℕ → Members → ℕ → Numbered → Type 0
StandsAt u ms t e = (d : ℕ) × (e.worker ≡ u + d) × (t ≡ start_of ms d + e.number) × (slice_get (sayings_of ms d) e.number ≡ Some e.saying)

turn-stands : (u : ℕ) (ms : Members) (t : ℕ) (e : Numbered) → slice_get (in_turn u ms) t ≡ Some e → StandsAt u ms t e
turn-stands u [] t e at = absurd (grind (arith, at))
turn-stands u (m ∷ ms) t e at = by (parted-at (numbered_from u 0 m.sayings) (in_turn (u + 1) ms) t e at) (λ k h. turn-stands (u + 1) ms k e h)
  where
    by : (slice_get (numbered_from u 0 m.sayings) t ≡ Some e) ⊎ ((k : ℕ) × (t ≡ length (numbered_from u 0 m.sayings) + k) × (slice_get (in_turn (u + 1) ms) k ≡ Some e))
        → ((k : ℕ) → slice_get (in_turn (u + 1) ms) k ≡ Some e → StandsAt (u + 1) ms k e) → StandsAt u (m ∷ ms) t e
    by (inl h) later =
        let own = numbered-from-at u 0 m.sayings t e h in
        let worker : u ≡ u + 0 = omega arith in
        let place = own.1 in
        let number : e.number ≡ t = omega (arith, place) in
        (0, own.0 ∙ worker, omega (arith, place), ap (slice_get m.sayings) number ∙ own.2)
    by (inr (k, place, h)) later =
        let more = later k h in
        let worker = more.1 in
        let long = length-numbered u 0 m.sayings in
        let start = more.2 in
        let next = start-later m ms more.0 in
        (suc more.0, omega (arith, worker), omega (arith, place, long, start, next), more.3)

pub turn-from : (ms : Members) (t : ℕ) (e : Numbered) → slice_get (in_turn 0 ms) t ≡ Some e → (t ≡ start_of ms e.worker + e.number) × (slice_get (sayings_of ms e.worker) e.number ≡ Some e.saying)
turn-from ms t e at =
    let stands = turn-stands 0 ms t e at in
    let worker = stands.1 in
    let same : stands.0 ≡ e.worker = omega (arith, worker) in
    (stands.2 ∙ ap (λ w. start_of ms w + e.number) same, ap (λ w. slice_get (sayings_of ms w) e.number) (sym same) ∙ stands.3)

-- ---- what stands among workers in turn stands in the text

held-at : {X : Type 0} (xs : List X) (i : ℕ) (x : X) → slice_get xs i ≡ Some x → Contains xs x
held-at [] i x at = absurd (grind (arith, at))
held-at (y ∷ xs) zero x at = let same : y ≡ x = grind (arith, at) in (0, omega arith, same)
held-at (y ∷ xs) (suc i) x at = in-front y xs x (held-at xs i x at)

stands-at : {X : Type 0} (xs : List X) (x : X) → Contains xs x → (i : ℕ) × (slice_get xs i ≡ Some x)
stands-at [] x (k, lt, same) = absurd (omega (arith, lt))
stands-at (y ∷ xs) x (zero, lt, same) = (0, ap Some same)
stands-at (y ∷ xs) x (suc k, lt, same) = let more = stands-at xs x (k, omega (arith, lt), same) in (suc more.0, more.1)

module _ (xs ys : List Numbered) (e : Numbered) where
  abbrev mixed : List Numbered
  mixed = filter is_initial xs ++ ys ++ filter (λ x. not (is_initial x)) xs

  own-mixed : (b : Bool) → is_initial e ≡ b → Contains xs e → Contains mixed e
  own-mixed true is there = before-others (filter is_initial xs ++ ys) (filter (λ x. not (is_initial x)) xs) e (before-others (filter is_initial xs) ys e (filtered is_initial xs e there is))
  own-mixed false is there = behind (filter is_initial xs ++ ys) (filter (λ x. not (is_initial x)) xs) e (filtered (λ x. not (is_initial x)) xs e there (ap not is))

  other-mixed : Contains ys e → Contains mixed e
  other-mixed there = before-others (filter is_initial xs ++ ys) (filter (λ x. not (is_initial x)) xs) e (behind (filter is_initial xs) ys e there)

  parts-mixed : (t : ℕ) → (slice_get xs t ≡ Some e) ⊎ ((k : ℕ) × (t ≡ length xs + k) × (slice_get ys k ≡ Some e)) → Contains mixed e
  parts-mixed t (inl at) = own-mixed (is_initial e) refl (held-at xs t e at)
  parts-mixed t (inr (k, place, at)) = other-mixed (held-at ys k e at)

pub turn-in-text : (ms : Members) (t : ℕ) (e : Numbered) → slice_get (in_turn 0 ms) t ≡ Some e → (n : ℕ) × (slice_get (in_text ms) n ≡ Some e)
turn-in-text [] t e at = absurd (grind (arith, at))
turn-in-text (own ∷ named) t e at =
    stands-at (in_text (own ∷ named)) e
    (parts-mixed (numbered_from 0 0 own.sayings) (in_turn 1 named) e t (parted-at (numbered_from 0 0 own.sayings) (in_turn 1 named) t e at))
