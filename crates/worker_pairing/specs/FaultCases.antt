-- Worked cases of faults: small functions, each with the fault that comes first and its place, reasoned out by hand.
use Rattle.std.specs.Prelude.{◌↔◌, ℕ, false, List, [], ◌∷◌, Some, None, replicate}
use Rattle.bal_base.specs.declared.fault.Fault.{Fault}
use Rattle.bal_base.specs.declared.fault.FaultCode.{FaultCode}
use Rattle.bal_base.specs.declared.fault.FaultCode.TheVariants.{BadMessage, Conditional, NoPeer, SuccessBefore, Unpaired, WorkerLimit}
use Rattle.bal_base.specs.declared.fault.Kept.{Kept}
use Rattle.bal_base.specs.declared.fault.Kept.TheVariants as kept
use Rattle.bal_base.specs.declared.shape.Shape.{Shape, Nil}
use Rattle.type_model.specs.declared.answers.TypeLimit.{TypeLimit}
use Rattle.type_model.specs.declared.atoms.AtomDef.{AtomDef}
use Rattle.type_model.specs.declared.basic.BasicSet.TheVariants as basic
use Rattle.type_model.specs.declared.basic.SemType.{SemType, Basic}
use Rattle.type_model.specs.Calls.{Asked}
use Rattle.type_model.specs.Inclusion.{IsShapeOf}
use Rattle.typed_tree.specs.declared.event.EventKind.{EventKind}
use Rattle.typed_tree.specs.declared.event.EventKind.TheVariants.{Send, Receive, Wait}
use Rattle.typed_tree.specs.declared.event.Plan.{Plan}
use Rattle.typed_tree.specs.Listed.{Listed, nothing, one, ◌&◌}
use Rattle.checks.specs.Checks.{Outcome, Gives, Refuses, refuses}
use Rattle.checks.specs.Questions.{IsFault}
use Rattle.worker_pairing.specs.Cases.{here, numbered, saying_at, says, worker}
use Rattle.worker_pairing.specs.Faults.{Atoms, error_type, pair_with, plans}
use Rattle.worker_pairing.specs.Marks.{Mark, Says, Early, Returns, Members, member_of, nil_type, set_apart}

-- ---- functions

-- as many workers as this
abbrev pub many_workers : ℕ → Members
many_workers n = worker nothing ∷ replicate n (worker nothing)

-- worker A { 1 -> A; }
abbrev pub own_peer : Members
own_peer = worker nothing ∷ worker (says (Send (Some 1)) 10) ∷ []

-- wait A; worker A { }
abbrev pub initial_wait : Members
initial_wait = member_of nil_type (says (Wait (1 ∷ [])) 5) nothing (here 99) ∷ worker nothing ∷ []

-- worker A { if true { 1 -> B; } 2 -> C; } worker B { int x = <- A; }
abbrev pub peer_behind_branch : Members
peer_behind_branch = worker nothing ∷ worker (set_apart (says (Send (Some 2)) 10) & says (Send None) 11) ∷ worker (says (Receive (Some 1)) 20) ∷ []

-- worker A { if true { 1 -> B; } } worker B { int x = <- A; }
abbrev pub branch_send : Members
branch_send = worker nothing ∷ worker (set_apart (says (Send (Some 2)) 10)) ∷ worker (says (Receive (Some 1)) 20) ∷ []

-- worker A { 1 -> B; 2 -> B; } worker B { if true { int x = <- A; } }
abbrev pub branch_receive : Members
branch_receive = worker nothing ∷ worker (says (Send (Some 2)) 10 & says (Send (Some 2)) 11) ∷ worker (set_apart (says (Receive (Some 1)) 20)) ∷ []

-- worker A { 1 -> B; } worker B { int x = <- A; int y = <- A; }
abbrev pub more_receives : Members
more_receives = worker nothing ∷ worker (says (Send (Some 2)) 10) ∷ worker (says (Receive (Some 1)) 20 & says (Receive (Some 1)) 21) ∷ []

-- worker A { 1 -> function; } worker B { int y = <- A; }: as many sends as receives, but between others
abbrev pub other_peers : Members
other_peers = worker nothing ∷ worker (says (Send (Some 0)) 10) ∷ worker (says (Receive (Some 1)) 20) ∷ []

-- worker A { if true { return; } 1 -> B; } worker B { }
abbrev pub unpaired_behind_return : Members
unpaired_behind_return = worker nothing ∷ worker (set_apart (one (Returns nil_type (here 9))) & says (Send (Some 2)) 10) ∷ worker nothing ∷ []

-- worker A { if true { return; } 1 -> B; } worker B { int x = <- A; }
abbrev pub return_before_send : Members
return_before_send = worker nothing ∷ worker (set_apart (one (Returns nil_type (here 9))) & says (Send (Some 2)) 10) ∷ worker (says (Receive (Some 1)) 20) ∷ []

-- worker A { if true { return; } int x = <- B; } worker B { 1 -> A; }
abbrev pub return_before_receive : Members
return_before_receive = worker nothing ∷ worker (set_apart (one (Returns nil_type (here 9))) & says (Receive (Some 2)) 10) ∷ worker (says (Send (Some 1)) 20) ∷ []

abbrev pub typed : EventKind → ℕ → SemType → Listed Mark
typed kind n type = one (Says kind (here n) false type)

-- worker A { () -> B; } worker B { string x = <- A; }
abbrev pub nil_as_string : Members
nil_as_string = worker nothing ∷ worker (typed (Send (Some 2)) 10 nil_type) ∷ worker (typed (Receive (Some 1)) 20 (Basic basic.StringAll)) ∷ []

-- worker A returns error { check f(); () -> B; .. } worker B { () x = <- A; }
abbrev pub failing_sender : Members
failing_sender = worker nothing ∷ member_of error_type nothing (one Early & says (Send (Some 2)) 10) (here 99) ∷ worker (says (Receive (Some 1)) 20) ∷ []

-- worker A { 1 -> B; } worker B { int x = <- A; }, and its plan
abbrev pub one_message : Members
one_message = worker nothing ∷ worker (says (Send (Some 2)) 10) ∷ worker (says (Receive (Some 1)) 20) ∷ []

abbrev pub one_plan : Plan
one_plan =
    record {
      pairs = pair_with (numbered 1 0 (saying_at (Send (Some 2)) 10 false)) (numbered 2 0 (saying_at (Receive (Some 1)) 20 false)) ∷ [];
      ranks = 0 ∷ 1 ∷ 2 ∷ 3 ∷ 4 ∷ [];
    }

-- worker A { int x = <- B; 1 -> B; } worker B { int y = <- A; 2 -> A; }
abbrev pub peers_in_ring : Members
peers_in_ring = worker nothing ∷ worker (says (Receive (Some 2)) 10 & says (Send (Some 2)) 11) ∷ worker (says (Receive (Some 1)) 20 & says (Send (Some 1)) 21) ∷ []

-- ---- what comes of them, where `passes` says which questions pass a limit

module _ (passes : List AtomDef → Asked → TypeLimit → Type 0) where
  -- just this comes of it
  abbrev pub IsRefusedSo : Members → FaultCode → ℕ → Kept → Type 0
  IsRefusedSo ms code n shown = (old : Atoms) (o : Outcome Plan) (new : Atoms) → plans passes (here 1) ms old o new ↔ refuses (λ _. IsFault code (Some (here n)) shown) old o new

  abbrev pub TooManyWorkers : Type 0
  TooManyWorkers = IsRefusedSo (many_workers 65) WorkerLimit 1 (kept.Count 65)

  abbrev pub NamesItself : Type 0
  NamesItself = IsRefusedSo own_peer NoPeer 10 kept.Nothing

  abbrev pub WaitsInitially : Type 0
  WaitsInitially = IsRefusedSo initial_wait NoPeer 5 kept.Nothing

  -- although a conditional event stands before it
  abbrev pub PeerComesFirst : Type 0
  PeerComesFirst = IsRefusedSo peer_behind_branch NoPeer 11 kept.Nothing

  abbrev pub SendsInBranch : Type 0
  SendsInBranch = IsRefusedSo branch_send Conditional 10 kept.Nothing

  -- although a send that no receive belongs to stands before it
  abbrev pub ConditionComesFirst : Type 0
  ConditionComesFirst = IsRefusedSo branch_receive Conditional 20 kept.Nothing

  abbrev pub ReceivesTooOften : Type 0
  ReceivesTooOften = IsRefusedSo more_receives Unpaired 21 (kept.Counts 1 2)

  abbrev pub PairsByPeers : Type 0
  PairsByPeers = IsRefusedSo other_peers Unpaired 10 (kept.Counts 1 0)

  -- although a return with success stands before the send
  abbrev pub PairComesFirst : Type 0
  PairComesFirst = IsRefusedSo unpaired_behind_return Unpaired 10 (kept.Counts 1 0)

  -- ---- where a question about types is asked, which may pass a limit: this comes, and no plan

  abbrev pub MayBeRefusedSo : Members → FaultCode → ℕ → Kept → Type 0
  MayBeRefusedSo ms code n shown =
      (old : Atoms) → ((f : Fault) → IsFault code (Some (here n)) shown f → plans passes (here 1) ms old (Refuses f) old)
      × ((p : Plan) (new : Atoms) → ¬ (plans passes (here 1) ms old (Gives p) new))

  abbrev pub ReturnsBeforeSend : Type 0
  ReturnsBeforeSend = MayBeRefusedSo return_before_send SuccessBefore 9 kept.Nothing

  abbrev pub ReturnsBeforeReceive : Type 0
  ReturnsBeforeReceive = MayBeRefusedSo return_before_receive SuccessBefore 9 kept.Nothing

  -- and nil shows it
  abbrev pub SendsNil : Type 0
  SendsNil = MayBeRefusedSo nil_as_string BadMessage 20 (kept.Shape Nil)

  -- what its sender may fail with is received as well
  abbrev pub FailureIsOutside : Type 0
  FailureIsOutside = (old : Atoms) (x : Shape) → IsShapeOf old error_type x → (p : Plan) (new : Atoms) → ¬ (plans passes (here 1) failing_sender old (Gives p) new)

  -- ---- a plan, and none

  abbrev pub PlansOneMessage : Type 0
  PlansOneMessage = (old : Atoms) → plans passes (here 1) one_message old (Gives one_plan) old

  abbrev pub NoPlanInRing : Type 0
  NoPlanInRing = (old : Atoms) (p : Plan) (new : Atoms) → ¬ (plans passes (here 1) peers_in_ring old (Gives p) new)
