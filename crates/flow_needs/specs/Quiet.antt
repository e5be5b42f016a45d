-- What needs leave as it is: what is known of variables in each unit, whatever handles its types have, and the slots that it has.
use Rattle.std.specs.Prelude.{◌≡◌, ◌≤◌, length}
use Rattle.std.specs.List.{AllZip}
use Rattle.check_words.specs.Sharing.{SameCaptured, SameFlow}
use Rattle.check_words.specs.State.{State, UnitAtWork}

-- the same is known of its variables, it has as many slots or more, and captures what it did
pub record KnowsSame (u v : UnitAtWork) : Type 0 where
  pub flow : SameFlow u.flow v.flow
  pub slots : length u.slots ≤ length v.slots
  pub captured : AllZip SameCaptured u.captured v.captured

-- in each unit the same is known
pub record KnowsOn (old new : State) : Type 0 where
  pub units : AllZip KnowsSame old.units new.units

-- and the parts, what the last one says of variables, and the choices that are open stay
pub record IsQuiet (old new : State) : Type 0 where
  pub on : KnowsOn old new
  pub found : new.found ≡ old.found
  pub ways : new.ways ≡ old.ways
  pub choices : new.choices ≡ old.choices
