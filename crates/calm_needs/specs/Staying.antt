-- Ways that are entered and left: whatever is known of variables, no unit comes or goes, and the units in the parts are the same.
use Rattle.std.specs.Prelude.{◌≡◌, Bool, List}
use Rattle.bal_base.specs.declared.place.Place.{Place}
use Rattle.descriptors.specs.declared.names.Names.{Names}
use Rattle.type_model.specs.declared.answers.TypeLimit.{TypeLimit}
use Rattle.type_model.specs.declared.atoms.AtomDef.{AtomDef}
use Rattle.type_model.specs.Calls.{Asked}
use Rattle.expr_needs.specs.Needs.{Need, Chooses, Conjoins, Disjoins, Splits, Switches}
use Rattle.check_words.specs.State.{State}
use Rattle.typed_needs.specs.Between.{units_in}
use Rattle.calm_needs.specs.Calm.{Meets, StaysOn}

-- what is so before is told of what is so behind, so it is no premise here that variables are in slots of their declared types
pub record Stays (old new : State) : Type 0 where
  pub on : StaysOn old new
  pub units : units_in new.found ≡ units_in old.found

module _ (passes : List AtomDef → Asked → TypeLimit → Type 0) (names : Names) where
  abbrev pub AlwaysStays : Need → Type 0
  AlwaysStays need = (old new : State) → Meets passes names need old new → Stays old new

  pub record WaysStayOn : Type 0 where
    pub splits : (way : Bool) → AlwaysStays (Splits way)
    pub switches : AlwaysStays Switches
    pub conjoins : (at : Place) → AlwaysStays (Conjoins at)
    pub disjoins : (at : Place) → AlwaysStays (Disjoins at)
    pub chooses : (at : Place) → AlwaysStays (Chooses at)

abbrev pub AllWaysStayOn : (List AtomDef → Asked → TypeLimit → Type 0) → Type 0
AllWaysStayOn passes = (names : Names) → WaysStayOn passes names
