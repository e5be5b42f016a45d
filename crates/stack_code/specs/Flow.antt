-- The typing of one place: its operands, where it goes on, and what must be known there.
use Rattle.std.specs.Prelude.{◌≡◌, ◌≢◌, ◌≤◌, ◌++◌, ◌+◌, ℕ, suc, List, [], ◌∷◌, Option, Some, None, IsSomeAnd, All, Contains, get_or, length, option_map, option_to_list, replicate, slice_set}
use Rattle.std.specs.List.{AllZip}
use Rattle.type_model.specs.declared.basic.BasicSet.TheVariants.{ErrorAll}
use Rattle.type_model.specs.declared.basic.SemType.{SemType, Basic}
use Rattle.type_model.specs.Defined.{IsDefined}
use Rattle.type_model.specs.Inclusion.{HaveSameShapes}
use Rattle.operations.specs.declared.operation.Operation.{Operation}
use Rattle.operations.specs.declared.operation.Operation.TheVariants as op
use Rattle.operations.specs.Kinds.{IsBoolean}
use Rattle.operations.specs.Rows.{AreBelow, IsWithin}
use Rattle.operations.specs.Talk.{Talk, Sends, Receives, Flushes, StartsWorkers, AwaitsWorkers, NoTalk, talk_of}
use Rattle.operations.specs.Typing.{OpTyped}
use Rattle.machine_model.specs.Following.{EndsFrame}
use Rattle.stack_code.specs.declared.code.Code.{Code}
use Rattle.stack_code.specs.declared.code.Unit.{Unit as CodeUnit}
use Rattle.stack_code.specs.Commands.{Command, Do, GoTo, GoToIfNot, OpenTrap, CloseTrap, command_at}
use Rattle.stack_code.specs.Places.{Station, Tally, IsIn, crew, stack_at, surroundings, tally_at, traps_at}

-- ---- numbers of messages

abbrev pub one_more : List ℕ → ℕ → List ℕ
one_more ns w = slice_set ns w (suc (get_or ns w 0))

abbrev pub sent_one : ℕ → Tally → Tally
sent_one w t = record { sent = one_more t.sent w; received = t.received }

abbrev pub received_one : ℕ → Tally → Tally
received_one w t = record { sent = t.sent; received = one_more t.received w }

abbrev pub no_messages : ℕ → Tally
no_messages workers = record { sent = replicate workers 0; received = replicate workers 0 }

-- what the numbers are behind an operation, in a function of so many workers
abbrev pub tally_then : ℕ → Talk → Option Tally → Option Tally
tally_then workers (Sends w) tally = option_map (sent_one w) tally
tally_then workers (Receives w) tally = option_map (received_one w) tally
tally_then workers (Flushes w) tally = tally
tally_then workers StartsWorkers tally = Some (no_messages workers)
tally_then workers (AwaitsWorkers ws) tally = tally
tally_then workers NoTalk tally = tally

abbrev pub tally_behind : ℕ → Operation → Option Tally → Option Tally
tally_behind workers operation tally = tally_then workers (talk_of operation) tally

-- what they are where a panic lands: a send or a receive that failed counts, and workers that could not be started don't
abbrev pub tally_thrown : Talk → Option Tally → Option Tally
tally_thrown (Sends w) tally = option_map (sent_one w) tally
tally_thrown (Receives w) tally = option_map (received_one w) tally
tally_thrown (Flushes w) tally = tally
tally_thrown StartsWorkers tally = tally
tally_thrown (AwaitsWorkers ws) tally = tally
tally_thrown NoTalk tally = tally

-- and where a panic of a place with this command lands
abbrev pub tally_landing : Option Command → Option Tally → Option Tally
tally_landing (Some (Do operation)) tally = tally_thrown (talk_of operation) tally
tally_landing (Some (GoTo to)) tally = tally
tally_landing (Some (GoToIfNot to)) tally = tally
tally_landing (Some (OpenTrap to)) tally = tally
tally_landing (Some CloseTrap) tally = tally
tally_landing None tally = tally

-- the named workers are started from a place without numbers
abbrev pub IsBeforeWorkers : Operation → Option Tally → Type 0
IsBeforeWorkers operation tally = talk_of operation ≡ StartsWorkers → tally ≡ None

-- the types have the same shapes, one by one
abbrev pub AreSame : Code → List SemType → List SemType → Type 0
AreSame code = AllZip (HaveSameShapes code.atoms)

-- the types at a place
module _ (code : Code) (u : CodeUnit) (station : Station) where
  abbrev pub workers_here : ℕ
  workers_here = length (crew code station.function)

  -- ---- where a place goes on

  -- with this stack and these numbers it goes on at a place of the unit, whose map has types above
  abbrev pub GoesOnAt : ℕ → List SemType → Option Tally → Type 0
  GoesOnAt to stack tally = IsIn u to × AreBelow code.atoms stack (stack_at code to) × (tally_at code to ≡ tally)

  -- a jump or a trap to a place, whether forward or to a tick, in the reach of the same traps
  abbrev pub LandsAt : ℕ → ℕ → Type 0
  LandsAt p to = IsIn u to × (to ≤ p → command_at code to ≡ Some (Do op.Tick)) × (traps_at code u to ≡ traps_at code u p)

  -- ---- traps

  -- the operands that the traps in whose reach the place is have kept stay below
  abbrev pub KeepsBelow : ℕ → List SemType → Type 0
  KeepsBelow p rest = IsSomeAnd (traps_at code u p) (λ traps. All (λ t. length (stack_at code t) ≤ length rest) traps)

  -- the map begins with types below those of the map of each trap in whose reach the place is
  abbrev pub BeginsBelow : ℕ → Type 0
  BeginsBelow p =
      IsSomeAnd (traps_at code u p) (λ traps. All (λ t. (front : List SemType) × (back : List SemType) × (stack_at code p ≡ front ++ back)
      × AreBelow code.atoms front (stack_at code t)) traps)

  -- where a trap lands the map is the trap's own with an error above
  abbrev pub IsLandingOf : ℕ → ℕ → Type 0
  IsLandingOf t to =
      (own : List SemType) × (error : SemType) × (stack_at code to ≡ own ++ error ∷ []) × AreSame code own (stack_at code t)
      × HaveSameShapes code.atoms error (Basic ErrorAll)

  -- and it has the numbers with which a panic comes from each place in the trap's reach
  abbrev pub HasTalliesOf : ℕ → ℕ → Type 0
  HasTalliesOf t to =
      (q : ℕ) → IsIn u q → IsSomeAnd (traps_at code u q) (λ traps. Contains traps t) →
      tally_landing (command_at code q) (tally_at code q) ≡ tally_at code to

  -- a trap is open, which can be closed
  abbrev pub IsInTrap : ℕ → Type 0
  IsInTrap p = IsSomeAnd (traps_at code u p) (λ traps. traps ≢ [])

  -- ---- one place

  -- the operands of an operation are in its typing row, and behind it the others stand with what it gives
  pub record DoesTyped (p : ℕ) (operation : Operation) : Type 0 where
    pub rest : List SemType
    pub operands : List SemType
    pub result : Option SemType
    pub stack : stack_at code p ≡ rest ++ operands
    pub typed : OpTyped code.atoms (surroundings code u station) operation operands result
    pub kept : KeepsBelow p rest
    pub unstarted : IsBeforeWorkers operation (tally_at code p)
    pub next : (¬ (EndsFrame operation)) → GoesOnAt (p + 1) (rest ++ option_to_list result) (tally_behind workers_here operation (tally_at code p))

  -- both ways of a branch, where a boolean is taken
  pub record BranchesTyped (p to : ℕ) : Type 0 where
    pub rest : List SemType
    pub condition : SemType
    pub stack : stack_at code p ≡ rest ++ condition ∷ []
    pub boolean : IsWithin code.atoms IsBoolean condition
    pub kept : KeepsBelow p rest
    pub lands : LandsAt p to
    pub next : GoesOnAt (p + 1) rest (tally_at code p)
    pub other : GoesOnAt to rest (tally_at code p)

  abbrev pub IsTypedBy : ℕ → Command → Type 0
  IsTypedBy p (Do operation) = DoesTyped p operation
  IsTypedBy p (GoTo to) = LandsAt p to × GoesOnAt to (stack_at code p) (tally_at code p)
  IsTypedBy p (GoToIfNot to) = BranchesTyped p to
  IsTypedBy p (OpenTrap to) = LandsAt p to × IsLandingOf p to × HasTalliesOf p to × GoesOnAt (p + 1) (stack_at code p) (tally_at code p)
  IsTypedBy p CloseTrap = IsInTrap p × GoesOnAt (p + 1) (stack_at code p) (tally_at code p)

  -- all that the instruction and the map name is there, and what it takes and gives is typed
  pub record IsTypedAt (p : ℕ) : Type 0 where
    pub command : IsSomeAnd (command_at code p) (IsTypedBy p)
    pub begins : BeginsBelow p
    pub defined : All (IsDefined code.atoms) (stack_at code p)

  -- ---- the ends of the unit

  abbrev pub HasEntry : (named : Type 0) → Type 0
  HasEntry named =
      (command_at code u.first ≡ Some (Do op.Tick)) × (stack_at code u.first ≡ [])
      × (named → tally_at code u.first ≡ Some (no_messages workers_here)) × ((¬ named) → tally_at code u.first ≡ None)

  -- its first place is an entry, and behind its last one each trap that was opened is closed
  abbrev pub IsBoundedAt : (named : Type 0) → ℕ → Type 0
  IsBoundedAt named p = (p ≡ u.first → HasEntry named) × (p + 1 ≡ u.end → traps_at code u u.end ≡ Some [])
