-- The needs of a place of a code, as a set, and all that is tested of numbers there.
use Rattle.std.specs.Prelude.{◌≡◌, ◌⊎◌, ◌↔◌, ◌+◌, ℕ, Bool, false, List, Some, Contains, IsSome, IsTrue, slice_get}
use Rattle.type_model.specs.declared.basic.SemType.{SemType}
use Rattle.operations.specs.declared.operation.Operation.{Operation}
use Rattle.operations.specs.declared.operation.Operation.TheVariants as op
use Rattle.stack_code.specs.declared.code.Code.{Code}
use Rattle.stack_code.specs.declared.code.Unit.{Unit as CodeUnit}
use Rattle.stack_code.specs.Commands.{Do, command_at}
use Rattle.stack_code.specs.Flow.{IsBoundedAt}
use Rattle.stack_code.specs.Messages.{HasAll, IsLast, IsOf, Leaves, NamesAwaited, NamesPeers, ReceivesAt, SendsAt, worker}
use Rattle.stack_code.specs.Places.{IsIn, IsStation, IsWorkerUnit, Station, Tally, stack_at, tally_at}
use Rattle.stack_code.specs.Tables.{EachUnit, UsesWell}
use Rattle.code_needs.specs.declared.kind.Kind.TheVariants.{Errors}
use Rattle.code_needs.specs.Needs.{Below, Need, Within}
use Rattle.code_needs.specs.PlaceNeeds.{PlacePasses, place_needs}

-- a table of which workers of functions have, with which numbers, made all their sends and receives
abbrev pub TellsMade : Code → (ℕ → ℕ → Tally → Bool) → Type 0
TellsMade code made = (f v : ℕ) (tally : Tally) → IsTrue (made f v tally) ↔ HasAll code (worker code f v) tally

module _ (code : Code) where
  -- what is sent at p is below what stands behind the receive at q
  pub record OfMessage (p q : ℕ) (need : Need) : Type 0 where
    pub sent : SemType
    pub received : SemType
    pub last : IsLast (stack_at code p) sent
    pub behind : IsLast (stack_at code (q + 1)) received
    pub is : need ≡ Below sent received

module _ (code : Code) (made : ℕ → ℕ → Tally → Bool) (p : ℕ) where
  -- ---- needs

  -- what the place needs in its unit, as one of this worker's
  pub record OfUnit (need : Need) : Type 0 where
    pub unit : ℕ
    pub u : CodeUnit
    pub station : Station
    pub stands : slice_get code.units unit ≡ Some u
    pub inside : IsIn u p
    pub works : IsStation code unit station
    pub needs : List Need
    pub are : place_needs code u station p ≡ Some needs
    pub one : Contains needs need

  -- a send has it with each receive of its number, and a receive with each send
  pub record OfSend (need : Need) : Type 0 where
    pub function : ℕ
    pub sender : ℕ
    pub receiver : ℕ
    pub number : ℕ
    pub receive : ℕ
    pub sends : SendsAt code function sender receiver number p
    pub receives : ReceivesAt code function sender receiver number receive
    pub message : OfMessage code p receive need

  pub record OfReceive (need : Need) : Type 0 where
    pub function : ℕ
    pub sender : ℕ
    pub receiver : ℕ
    pub number : ℕ
    pub send : ℕ
    pub receives : ReceivesAt code function sender receiver number p
    pub sends : SendsAt code function sender receiver number send
    pub message : OfMessage code send p need

  -- what a worker returns before it has made all, is below what stands behind an operation that it leaves
  pub record OfLeft (function worker : ℕ) (tally : Tally) (returned : SemType) (need : Need) : Type 0 where
    pub peer : ℕ
    pub place : ℕ
    pub behind : SemType
    pub leaves : Leaves code function worker peer place tally
    pub last : IsLast (stack_at code (place + 1)) behind
    pub is : need ≡ Below returned behind

  -- and it is an error
  pub record OfReturn (need : Need) : Type 0 where
    pub function : ℕ
    pub own : ℕ
    pub tally : Tally
    pub returned : SemType
    pub place : IsOf code (worker code function own) p
    pub returns : command_at code p ≡ Some (Do op.Return)
    pub numbers : tally_at code p ≡ Some tally
    pub more : made function own tally ≡ false
    pub last : IsLast (stack_at code p) returned
    pub is : (need ≡ Within returned Errors) ⊎ OfLeft function own tally returned need

  abbrev pub NeedsAt : Need → Type 0
  NeedsAt need = (OfUnit need ⊎ OfReturn need) ⊎ (OfSend need ⊎ OfReceive need)

  -- ---- tests of numbers

  pub record Passes : Type 0 where
    pub typed : EachUnit code (λ n u. IsIn u p → (station : Station) → IsStation code n station →
        PlacePasses code u station p × IsSome (place_needs code u station p) × IsBoundedAt code u station (IsWorkerUnit code n) p)
    pub uses : EachUnit code (λ n u. IsIn u p → UsesWell code n u p)
    pub workers : (f v : ℕ) (operation : Operation) → IsOf code (worker code f v) p → command_at code p ≡ Some (Do operation) → NamesPeers code (worker code f v) p operation × NamesAwaited code p operation
    -- a send has a receive of its number, and a receive a send
    pub sends : (f v w n : ℕ) → SendsAt code f v w n p → (q : ℕ) × ReceivesAt code f v w n q
    pub receives : (f v w n : ℕ) → ReceivesAt code f v w n p → (q : ℕ) × SendsAt code f v w n q
