-- Worked cases of the definitions, reasoned out by hand.
use Rattle.std.specs.Prelude.{◌≡◌, ℕ, Bool, true, false, [], ◌∷◌, Some, None, map}
use Rattle.bal_base.specs.declared.fault.Kept.TheVariants as kept
use Rattle.bal_base.specs.declared.place.Place.{Place}
use Rattle.typed_tree.specs.declared.event.EventKind.{EventKind}
use Rattle.typed_tree.specs.declared.event.EventKind.TheVariants.{Send, Post, Receive, Flush, Wait, End}
use Rattle.typed_tree.specs.Listed.{Listed, nothing, one, ◌&◌}
use Rattle.worker_pairing.specs.Events.{Crew, IsOrderable}
use Rattle.worker_pairing.specs.Faults.{counts, crew_of, has_no_peer, is_unpaired, pairs_of, pair_with, rank_in, route}
use Rattle.worker_pairing.specs.Marks.{Mark, Says, Early, Returns, Member, Members, Numbered, Saying, in_text, member_of, nil_type, set_apart}

abbrev pub here : ℕ → Place
here n = record { file = 0; at = n }

abbrev pub says : EventKind → ℕ → Listed Mark
says kind n = one (Says kind (here n) false nil_type)

abbrev pub worker : Listed Mark → Member
worker marks = member_of nil_type nothing marks (here 99)

-- worker A { 1 -> B; 2 -> B; } worker B { int x = <- A; wait A; int y = <- A; }
abbrev pub two_messages : Members
two_messages =
    worker nothing ∷ worker (says (Send (Some 2)) 10 & says (Send (Some 2)) 11)
    ∷ worker (says (Receive (Some 1)) 20 & says (Wait (1 ∷ [])) 21 & says (Receive (Some 1)) 22) ∷ []

abbrev pub saying_at : EventKind → ℕ → Bool → Saying
saying_at kind n early = record { kind = kind; at = here n; initial = false; inner = false; early = early; type = nil_type }

abbrev pub numbered : ℕ → ℕ → Saying → Numbered
numbered worker number saying = record { worker = worker; number = number; saying = saying }

-- the events of its workers
abbrev pub EventsOfTwo : Type 0
EventsOfTwo =
    crew_of two_messages
    ≡ (End ∷ []) ∷ (Send (Some 2) ∷ Send (Some 2) ∷ End ∷ []) ∷ (Receive (Some 1) ∷ Wait (1 ∷ []) ∷ Receive (Some 1) ∷ End ∷ []) ∷ []

-- the first message belongs to the first receive, and the second to the second, whatever stands between them
abbrev pub PairsOfTwo : Type 0
PairsOfTwo =
    pairs_of two_messages
    ≡ pair_with (numbered 1 0 (saying_at (Send (Some 2)) 10 false)) (numbered 2 0 (saying_at (Receive (Some 1)) 20 false))
    ∷ pair_with (numbered 1 1 (saying_at (Send (Some 2)) 11 false)) (numbered 2 2 (saying_at (Receive (Some 1)) 22 false)) ∷ []

-- the ranks are those of all events, worker by worker
abbrev pub RanksOfTwo : Type 0
RanksOfTwo = map (λ i. rank_in two_messages (7 ∷ 1 ∷ 2 ∷ 3 ∷ 4 ∷ 5 ∷ 6 ∷ 8 ∷ []) 2 i) (0 ∷ 1 ∷ 2 ∷ 3 ∷ []) ≡ 4 ∷ 5 ∷ 6 ∷ 8 ∷ []

-- worker A { 1 -> B; } worker B { int x = <- A; int y = <- A; }: the second receive is left over, with one sent and two received
abbrev pub one_too_few : Members
one_too_few = worker nothing ∷ worker (says (Send (Some 2)) 10) ∷ worker (says (Receive (Some 1)) 20 & says (Receive (Some 1)) 21) ∷ []

abbrev pub LeavesTheSecond : Type 0
LeavesTheSecond = map (is_unpaired one_too_few) (in_text one_too_few) ≡ false ∷ false ∷ false ∷ true ∷ false ∷ false ∷ []

abbrev pub CountsOfFew : Type 0
CountsOfFew = counts one_too_few (route 2 (Receive (Some 1))) ≡ kept.Counts 1 2

-- its own name, no name and the number of no worker are none's, and so is what stands in the initial part
abbrev pub no_peers : Members
no_peers =
    member_of nil_type (says (Receive (Some 1)) 1) nothing (here 99)
    ∷ worker (says (Send (Some 1)) 10 & says (Flush None) 11 & says (Post (Some 2)) 12 & says (Send (Some 0)) 13 & says (Wait (1 ∷ [])) 14) ∷ []

abbrev pub NamesNone : Type 0
NamesNone = map (has_no_peer no_peers) (in_text no_peers) ≡ true ∷ true ∷ true ∷ true ∷ false ∷ false ∷ false ∷ false ∷ []

-- worker A { check f(); 1 -> B; if c { return error("e"); 2 -> B; } }: what stands behind a check may not be reached, and what stands in
-- a branch is conditional; a return is one of two events before it
abbrev pub careful : Member
careful = worker (says (Send (Some 0)) 9 & one Early & says (Send (Some 2)) 10 & set_apart (one (Returns nil_type (here 11)) & says (Send (Some 2)) 12))

abbrev pub MarksOfCareful : Type 0
MarksOfCareful =
    (map (λ s. s.early) careful.sayings ≡ false ∷ true ∷ true ∷ true ∷ [])
    × (map (λ s. s.inner) careful.sayings ≡ false ∷ false ∷ true ∷ false ∷ [])
    × (map (λ r. r.before) careful.returns ≡ 2 ∷ [])

-- in the initial part no check counts, and no return
abbrev pub InitialIsExempt : Type 0
InitialIsExempt =
    (map (λ s. s.early) (member_of nil_type (one Early & one (Returns nil_type (here 1))) (says (Send (Some 1)) 2) (here 99)).sayings ≡ false ∷ false ∷ [])
    × ((member_of nil_type (one Early & one (Returns nil_type (here 1))) (says (Send (Some 1)) 2) (here 99)).returns ≡ [])

-- worker A { int x = <- B; 1 -> B; } worker B { int y = <- A; 2 -> A; }: no numbering
abbrev pub ring : Crew
ring = (End ∷ []) ∷ (Receive (Some 2) ∷ Send (Some 2) ∷ End ∷ []) ∷ (Receive (Some 1) ∷ Send (Some 1) ∷ End ∷ []) ∷ []

abbrev pub RingHasNone : Type 0
RingHasNone = ¬ IsOrderable ring

-- worker A { flush B; } is met by what was sent before it, and a worker that waits for itself by nothing
abbrev pub FlushesNothing : Type 0
FlushesNothing = IsOrderable ((Flush (Some 1) ∷ Send (Some 1) ∷ End ∷ []) ∷ (Receive (Some 0) ∷ End ∷ []) ∷ [])

abbrev pub WaitsForItself : Type 0
WaitsForItself = ¬ IsOrderable ((End ∷ []) ∷ (Wait (1 ∷ []) ∷ End ∷ []) ∷ [])
