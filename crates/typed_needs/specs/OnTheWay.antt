-- What is known of a state on the way, by where it goes on to.
use Rattle.std.specs.Prelude.{◌≡◌, List, length}
use Rattle.operations.specs.Rows.{Surroundings}
use Rattle.type_model.specs.declared.atoms.AtomDef.{AtomDef}
use Rattle.type_model.specs.Defined.{IsEnv}
use Rattle.check_words.specs.Stands.{Stands}
use Rattle.check_words.specs.State.{State}
use Rattle.typed_needs.specs.Going.{GoesOn}
use Rattle.typed_needs.specs.Items.{AreFirst}
use Rattle.typed_needs.specs.Pieces.{IsBefore}
use Rattle.typed_needs.specs.Placing.{IsPlaced}

-- where it stands, its atoms are the first ones of those at the end, and its types keep their shapes there
abbrev pub StatesAreBefore : Type 0
StatesAreBefore =
    (env : List AtomDef) (old new : State) → IsEnv old.atoms → Stands old → GoesOn old new → AreFirst env new.atoms → IsBefore env old × AreFirst env old.atoms

-- where no unit has come, the unit at hand has the first slots of the place that the later one has
abbrev pub PlacesAreKept : Type 0
PlacesAreKept = (place : Surroundings) (old new : State) → GoesOn old new → length new.units ≡ length old.units → IsPlaced place new → IsPlaced place old
