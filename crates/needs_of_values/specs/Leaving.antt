-- Conditions that are left.
use Rattle.std.specs.Prelude.{◌≡◌, ◌++◌, List, [], ◌∷◌, Option, Some}
use Rattle.flow_narrowing.specs.declared.flow.Flow.{Flow}
use Rattle.check_words.specs.Sharing.{SameFlow, SameWays}
use Rattle.check_words.specs.State.{ChoiceAtWork, Ways, ways_or_same}
use Rattle.check_work.specs.declared.work.Here.{Here}
use Rattle.check_work.specs.declared.work.Unit.{Unit as UnitHeld}
use Rattle.check_work.specs.Views.{flow_of}

-- The second way of a condition is left: its choice is closed, and in the unit at hand is known what was known before it. What the last part
-- says of variables is `now`, and the way that wasn't entered is `from`.
pub record IsLeft (ways : Option Ways) (old new : Option UnitHeld) (choices rest : List ChoiceAtWork) (now : Ways) (from : Flow) : Type 0 where
  pub unit : UnitHeld
  pub was : old ≡ Some unit
  pub here : Here
  pub is : new ≡ Some (record unit { here = here })
  pub choice : ChoiceAtWork
  pub closed : choices ≡ rest ++ choice ∷ []
  pub before : SameFlow choice.before (flow_of here)
  pub same : SameWays (ways_or_same ways (flow_of unit.here)) now
  pub other : from ≡ choice.other
