-- Messages between the workers of a function, place by place: which send is paired with which receive, and what a return may
-- leave.
use Rattle.std.specs.Prelude.{◌≡◌, ◌≢◌, ◌⊎◌, ◌≤◌, ◌<◌, ◌++◌, ◌+◌, ℕ, List, [], ◌∷◌, Some, None, IsSomeAnd, All, get_or, length, slice_get}
use Rattle.type_model.specs.declared.basic.SemType.{SemType}
use Rattle.type_model.specs.Membership.{In}
use Rattle.operations.specs.declared.operation.Operation.{Operation}
use Rattle.operations.specs.declared.operation.Operation.TheVariants as op
use Rattle.operations.specs.Kinds.{IsError}
use Rattle.operations.specs.Rows.{IsWithin}
use Rattle.operations.specs.Talk.{Talk, Sends, Receives, Flushes, StartsWorkers, AwaitsWorkers, NoTalk, talk_of}
use Rattle.stack_code.specs.declared.code.Code.{Code}
use Rattle.stack_code.specs.Commands.{Command, Do, GoTo, GoToIfNot, OpenTrap, CloseTrap, command_at}
use Rattle.stack_code.specs.Places.{Station, Tally, IsInUnit, IsStation, crew, stack_at, tally_at}

-- ---- what operations name

-- a message is sent to the worker
abbrev pub IsSend : ℕ → Operation → Type 0
IsSend w operation = talk_of operation ≡ Sends w

abbrev pub IsReceive : ℕ → Operation → Type 0
IsReceive w operation = talk_of operation ≡ Receives w

-- it waits until the worker has received what was sent to it
abbrev pub IsFlush : ℕ → Operation → Type 0
IsFlush w operation = talk_of operation ≡ Flushes w

-- the workers to or from which messages go; and those that are waited for
abbrev pub peers_in : Talk → List ℕ
peers_in (Sends w) = w ∷ []
peers_in (Receives w) = w ∷ []
peers_in (Flushes w) = w ∷ []
peers_in StartsWorkers = []
peers_in (AwaitsWorkers ws) = []
peers_in NoTalk = []

abbrev pub awaited_in : Talk → List ℕ
awaited_in (Sends w) = []
awaited_in (Receives w) = []
awaited_in (Flushes w) = []
awaited_in StartsWorkers = []
awaited_in (AwaitsWorkers ws) = ws
awaited_in NoTalk = []

-- the type of the last operand
abbrev pub IsLast : List SemType → SemType → Type 0
IsLast stack t = (rest : List SemType) × (stack ≡ rest ++ t ∷ [])

module _ (code : Code) where
  -- there is a command that does such an operation at the place
  abbrev pub DoesAt : ℕ → (Operation → Type 0) → Type 0
  DoesAt p P = IsSomeAnd (command_at code p) by
    where
      by : Command → Type 0
      by (Do operation) = P operation
      by (GoTo to) = ⊥
      by (GoToIfNot to) = ⊥
      by (OpenTrap to) = ⊥
      by CloseTrap = ⊥

  -- the place is one of the worker's unit
  abbrev pub IsOf : Station → ℕ → Type 0
  IsOf station p = (unit : ℕ) × IsStation code unit station × IsInUnit code unit p

  abbrev pub worker : ℕ → ℕ → Station
  worker f v = record { function = f; worker = v }

  -- ---- what is named

  -- another worker than its own, at a place with numbers
  abbrev pub NamesPeers : Station → ℕ → Operation → Type 0
  NamesPeers station p operation =
      All (λ w. (w < length (crew code station.function)) × (w ≢ station.worker) × (tally_at code p ≢ None)) (peers_in (talk_of operation))

  -- no default worker, at a place with numbers
  abbrev pub NamesAwaited : ℕ → Operation → Type 0
  NamesAwaited p operation = All (λ w. (w ≢ 0) × (tally_at code p ≢ None)) (awaited_in (talk_of operation))

  -- ---- pairs

  -- at the place the worker v of a function f sends its n-th message to w
  abbrev pub SendsAt : (f v w n p : ℕ) → Type 0
  SendsAt f v w n p = IsOf (worker f v) p × DoesAt p (IsSend w) × IsSomeAnd (tally_at code p) (λ t. slice_get t.sent w ≡ Some n)

  -- at the place the worker w receives its n-th message from v
  abbrev pub ReceivesAt : (f v w n p : ℕ) → Type 0
  ReceivesAt f v w n p = IsOf (worker f w) p × DoesAt p (IsReceive v) × IsSomeAnd (tally_at code p) (λ t. slice_get t.received v ≡ Some n)

  abbrev pub IsBelow : SemType → SemType → Type 0
  IsBelow s t = IsWithin code.atoms (λ x. In code.atoms x t) s

  -- what is sent at p is below what stands behind the receive at q
  abbrev pub MessageFits : (p q : ℕ) → Type 0
  MessageFits p q = (s t : SemType) → IsLast (stack_at code p) s → IsLast (stack_at code (q + 1)) t → IsBelow s t

  -- a send has a receive of its number, and its message is below what stands behind each of these
  abbrev pub SendsWell : ℕ → Type 0
  SendsWell p =
      (f v w n : ℕ) → SendsAt f v w n p →
      ((q : ℕ) × ReceivesAt f v w n q) × ((q : ℕ) → ReceivesAt f v w n q → MessageFits p q)

  -- a receive has a send of its number, and so have all these
  abbrev pub ReceivesWell : ℕ → Type 0
  ReceivesWell q =
      (f v w n : ℕ) → ReceivesAt f v w n q →
      ((p : ℕ) × SendsAt f v w n p) × ((p : ℕ) → SendsAt f v w n p → MessageFits p q)

  -- ---- returns

  -- each send and receive of the worker is among those that were made
  abbrev pub HasAll : Station → Tally → Type 0
  HasAll station tally =
      (p w : ℕ) → IsOf station p →
      (DoesAt p (IsSend w) → IsSomeAnd (tally_at code p) (λ t. get_or t.sent w 0 < get_or tally.sent w 0))
      × (DoesAt p (IsReceive w) → IsSomeAnd (tally_at code p) (λ t. get_or t.received w 0 < get_or tally.received w 0))

  -- with these numbers the worker v leaves the operation of the peer w at the place q without its partner
  abbrev pub Leaves : (f v w q : ℕ) → Tally → Type 0
  Leaves f v w q tally =
      IsOf (worker f w) q × (DoesAt q (IsReceive v) × IsSomeAnd (tally_at code q) (λ t. get_or tally.sent w 0 ≤ get_or t.received v 0)
      ⊎ DoesAt q (IsFlush v) × IsSomeAnd (tally_at code q) (λ t. get_or tally.received w 0 < get_or t.sent v 0))

  -- a worker returns an error, which is below what stands behind all that it leaves; or it has made all
  abbrev pub ReturnsWell : (f v p : ℕ) → Tally → Type 0
  ReturnsWell f v p tally =
      HasAll (worker f v) tally
      ⊎ ((t : SemType) → IsLast (stack_at code p) t →
      IsWithin code.atoms IsError t × ((w q : ℕ) → Leaves f v w q tally → (s : SemType) → IsLast (stack_at code (q + 1)) s → IsBelow t s))

  -- ---- one place

  pub record TalksWell (p : ℕ) : Type 0 where
    pub workers : (f v : ℕ) (operation : Operation) → IsOf (worker f v) p → command_at code p ≡ Some (Do operation) → NamesPeers (worker f v) p operation × NamesAwaited p operation
    pub sends : SendsWell p
    pub receives : ReceivesWell p
    pub returns : (f v : ℕ) (tally : Tally) → IsOf (worker f v) p → command_at code p ≡ Some (Do op.Return) → tally_at code p ≡ Some tally → ReturnsWell f v p tally
