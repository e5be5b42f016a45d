-- Small crews: which have a numbering.
use Rattle.std.proofs.Common.{◌<◌, ℕ, zero, suc, ◌+◌, ◌*◌, [], ◌∷◌, Some, refl, arith}
use Rattle.std.specs.Prelude.{length}
use Rattle.typed_tree.specs.declared.event.EventKind.TheVariants.{Send, Receive, Flush, End}
use Rattle.worker_pairing.specs.Cases.{FlushesNothing, RingHasNone, WaitsForItself}
use Rattle.worker_pairing.specs.Events.{Crew, IsNumbering, Needs, events_of}
use Rattle.worker_pairing.specs.FaultCases.{one_message, one_plan}
use Rattle.worker_pairing.specs.Faults.{crew_of, rank_in}

pub ring-has-none : RingHasNone
ring-has-none (rank, n) =
    let a = n.follows 1 0 2 1 (refl, (refl, refl)) in
    let b = n.rises 1 0 1 (omega arith) (omega arith) in
    let c = n.follows 2 0 1 1 (refl, (refl, refl)) in
    let d = n.rises 2 0 1 (omega arith) (omega arith) in
    omega (arith, a, b, c, d)

pub waits-for-itself : WaitsForItself
waits-for-itself (rank, n) =
    let a = n.follows 1 0 1 1 ((0, omega arith, refl), refl) in
    let b = n.rises 1 0 1 (omega arith) (omega arith) in
    omega (arith, a, b)

abbrev crew : Crew
crew = (Flush (Some 1) ∷ Send (Some 1) ∷ End ∷ []) ∷ (Receive (Some 0) ∷ End ∷ []) ∷ []

-- the events of the first worker, and then those of the second
abbrev rank : ℕ → ℕ → ℕ
rank w i = w * 10 + i

rises : (w i j : ℕ) → i < j → j < length (events_of crew w) → rank w i < rank w j
rises w i j lt there = omega (arith, lt)

needs : (w i u j : ℕ) → Needs crew w i u j → rank u j < rank w i
needs zero zero u j (is, (k, lt, received)) = absurd (omega (arith, lt))
needs zero (suc zero) u j h = absurd h
needs zero (suc (suc zero)) u j h = absurd h
needs zero (suc (suc (suc i))) u j h = absurd h
needs (suc zero) zero zero zero (is, sent) = omega arith
needs (suc zero) zero zero (suc zero) (is, sent) = omega arith
needs (suc zero) zero zero (suc (suc zero)) (is, sent) = omega arith
needs (suc zero) zero zero (suc (suc (suc j))) (is, sent) = absurd sent.0
needs (suc zero) zero (suc u) j (is, sent) = absurd (omega (arith, is))
needs (suc zero) (suc zero) u j h = absurd h
needs (suc zero) (suc (suc i)) u j h = absurd h
needs (suc (suc w)) zero u j h = absurd h
needs (suc (suc w)) (suc i) u j h = absurd h

pub flushes-nothing : FlushesNothing
flushes-nothing = (rank, record { rises = rises; follows = needs })

-- ---- one message

abbrev message_crew : Crew
message_crew = crew_of one_message

abbrev message_rank : ℕ → ℕ → ℕ
message_rank = rank_in one_message one_plan.ranks

message-rises : (w i j : ℕ) → i < j → j < length (events_of message_crew w) → message_rank w i < message_rank w j
message-rises zero i zero lt there = absurd (omega (arith, lt))
message-rises zero i (suc j) lt there = absurd (omega (arith, there))
message-rises (suc zero) i zero lt there = absurd (omega (arith, lt))
message-rises (suc zero) zero (suc zero) lt there = omega arith
message-rises (suc zero) (suc i) (suc zero) lt there = absurd (omega (arith, lt))
message-rises (suc zero) i (suc (suc j)) lt there = absurd (omega (arith, there))
message-rises (suc (suc zero)) i zero lt there = absurd (omega (arith, lt))
message-rises (suc (suc zero)) zero (suc zero) lt there = omega arith
message-rises (suc (suc zero)) (suc i) (suc zero) lt there = absurd (omega (arith, lt))
message-rises (suc (suc zero)) i (suc (suc j)) lt there = absurd (omega (arith, there))
message-rises (suc (suc (suc w))) i j lt there = absurd (omega (arith, there))

message-needs : (w i u j : ℕ) → Needs message_crew w i u j → message_rank u j < message_rank w i
message-needs zero zero u j h = absurd h
message-needs zero (suc i) u j h = absurd h
message-needs (suc zero) zero u j h = absurd h
message-needs (suc zero) (suc zero) u j h = absurd h
message-needs (suc zero) (suc (suc i)) u j h = absurd h
message-needs (suc (suc zero)) zero (suc zero) zero (is, sent) = omega arith
message-needs (suc (suc zero)) zero (suc zero) (suc zero) (is, sent) = omega (arith, sent)
message-needs (suc (suc zero)) zero (suc zero) (suc (suc j)) (is, sent) = absurd sent.0
message-needs (suc (suc zero)) zero zero j (is, sent) = absurd (omega (arith, is))
message-needs (suc (suc zero)) zero (suc (suc u)) j (is, sent) = absurd (omega (arith, is))
message-needs (suc (suc zero)) (suc zero) u j h = absurd h
message-needs (suc (suc zero)) (suc (suc i)) u j h = absurd h
message-needs (suc (suc (suc w))) zero u j h = absurd h
message-needs (suc (suc (suc w))) (suc i) u j h = absurd h

pub message-numbering : IsNumbering (crew_of one_message) (rank_in one_message one_plan.ranks)
message-numbering = record { rises = message-rises; follows = message-needs }
