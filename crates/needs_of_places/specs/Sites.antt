-- What the typing rows know of where an operation stands, and what it needs there.
use Rattle.std.specs.Prelude.{List, Option, Some, None}
use Rattle.type_model.specs.declared.atoms.AtomDef.{AtomDef}
use Rattle.type_model.specs.declared.basic.SemType.{SemType}
use Rattle.operations.specs.Rows.{Surroundings}
use Rattle.stack_code.specs.Commands.{Command, Do, GoTo, GoToIfNot, OpenTrap, CloseTrap}
use Rattle.stack_code.specs.Places.{Station, surroundings}
use Rattle.code_needs.specs.Combining.{Needs}
use Rattle.code_needs.specs.RowNeeds.{row_needs}
use Rattle.needs_of_places.specs.declared.site.Site.{Site}

-- which worker of which function the unit is
abbrev pub station_of : Site → Station
station_of site = record { function = site.function; worker = site.worker }

abbrev pub known_at : Site → Surroundings
known_at site = surroundings site.code.now site.unit.now (station_of site)

-- what the operation of a command needs by its row; what does none has no row
abbrev pub row_of : List AtomDef → Surroundings → List SemType → Option SemType → Option Command → Needs
row_of env place operands result (Some (Do o)) = row_needs env place o operands result
row_of env place operands result (Some (GoTo to)) = None
row_of env place operands result (Some (GoToIfNot to)) = None
row_of env place operands result (Some (OpenTrap to)) = None
row_of env place operands result (Some CloseTrap) = None
row_of env place operands result None = None

abbrev pub row_at : Site → List SemType → Option SemType → Option Command → Needs
row_at site = row_of site.code.now.atoms (known_at site)
