-- Where the events of a worker stand among all of them, and how many these are.
use Rattle.std.proofs.Common.{◌≡◌, ◌∙◌, ◌≤◌, ◌+◌, ◌-◌, ◌++◌, ℕ, zero, suc, List, [], ◌∷◌, length, refl, sym, ap, arith}
use Rattle.std.specs.Prelude.{filter, if◌then◌else◌, not}
use Rattle.std.proofs.lemmas.Bool.{ne_eqb}
use Rattle.std.proofs.lemmas.List.{length-append, length-map}
use Rattle.std.proofs.lemmas.List.Filters.{length-filter_both}
use Rattle.worker_pairing.specs.Faults.{kinds_of, start_of}
use Rattle.worker_partners.specs.Partners.{sayings_of}
use Rattle.worker_partners.proofs.Texts.{kinds-said-of}
use Rattle.worker_pairing.specs.Marks.{Member, Members, Numbered, Saying, in_text, in_turn, is_initial, numbered_from}

pub start-zero : (ms : Members) → start_of ms 0 ≡ 0
start-zero [] = refl
start-zero (m ∷ ms) = refl

start-later : (m : Member) (ms : Members) (w : ℕ) → start_of (m ∷ ms) (suc w) ≡ length m.sayings + start_of ms w
start-later m ms w =
    let less : suc w - 1 ≡ w = omega arith in
    ap (λ b. if b then 0 else length m.sayings + start_of ms (suc w - 1)) (ne_eqb (suc w) 0 (λ e. omega (arith, e)))
    ∙ ap (λ v. length m.sayings + start_of ms v) less

pub start-next : (ms : Members) (w : ℕ) → start_of ms (suc w) ≡ start_of ms w + length (kinds_of ms w)
start-next [] w = refl
start-next (m ∷ ms) zero =
    let first = start-later m ms 0 in
    let none = start-zero ms in
    let long = length-map m.sayings (λ s. s.kind) in
    omega (arith, first, none, long)
start-next (m ∷ ms) (suc w) =
    let more = start-later m ms (suc w) in
    let first = start-later m ms w in
    let next = start-next ms w in
    omega (arith, more, first, next)

pub start-more : (ms : Members) (i j : ℕ) → i ≤ j → start_of ms i ≤ start_of ms j
start-more [] i j le = omega arith
start-more (m ∷ ms) zero j le = omega arith
start-more (m ∷ ms) (suc i) zero le = absurd (omega (arith, le))
start-more (m ∷ ms) (suc i) (suc j) le =
    let a = start-later m ms i in
    let b = start-later m ms j in
    let more = start-more ms i j (omega (arith, le)) in
    omega (arith, a, b, more)

start-most : (ms : Members) (w : ℕ) → start_of ms w ≤ start_of ms (length ms)
start-most [] w = omega arith
start-most (m ∷ ms) zero = omega arith
start-most (m ∷ ms) (suc w) =
    let a = start-later m ms w in
    let b = start-later m ms (length ms) in
    let more = start-most ms w in
    omega (arith, a, b, more)

-- ---- all events

pub length-numbered : (w n : ℕ) (ss : List Saying) → length (numbered_from w n ss) ≡ length ss
length-numbered w n [] = refl
length-numbered w n (s ∷ ss) = ap suc (length-numbered w (n + 1) ss)

turn-long : (u : ℕ) (ms : Members) → length (in_turn u ms) ≡ start_of ms (length ms)
turn-long u [] = refl
turn-long u (m ∷ ms) =
    let both = length-append (numbered_from u 0 m.sayings) (in_turn (u + 1) ms) in
    let own = length-numbered u 0 m.sayings in
    let more = turn-long (u + 1) ms in
    let start = start-later m ms (length ms) in
    omega (arith, both, own, more, start)

length-turned : (ms : Members) → length (in_turn 0 ms) ≡ length (in_text ms)
length-turned [] = refl
length-turned (own ∷ named) =
    let xs : List Numbered = numbered_from 0 0 own.sayings in
    let both = length-filter_both is_initial (λ e. not (is_initial e)) (λ e. refl) xs in
    let whole = length-append xs (in_turn 1 named) in
    let first = length-append (filter is_initial xs) (in_turn 1 named) in
    let text = length-append (filter is_initial xs ++ in_turn 1 named) (filter (λ e. not (is_initial e)) xs) in
    omega (arith, both, whole, first, text)

pub start-all : (ms : Members) → start_of ms (length ms) ≡ length (in_text ms)
start-all ms = sym (turn-long 0 ms) ∙ length-turned ms

-- the events of a worker are among all of them
pub kinds-within : (ms : Members) (w : ℕ) → start_of ms w + length (kinds_of ms w) ≤ length (in_text ms)
kinds-within ms w =
    let next = start-next ms w in
    let most = start-most ms (suc w) in
    let all = start-all ms in
    omega (arith, next, most, all)

pub said-within : (ms : Members) (w : ℕ) → length (sayings_of ms w) ≤ length (in_text ms)
said-within ms w =
    let within = kinds-within ms w in
    let same = ap length (kinds-said-of ms w) in
    let long = length-map (sayings_of ms w) (λ s. s.kind) in
    omega (arith, within, same, long)
