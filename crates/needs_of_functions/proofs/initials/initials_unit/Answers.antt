use Rattle.std.proofs.Common.{ap, option_map}
use Rattle.check_work.specs.Views.{initials_of}
use Rattle.needs_of_functions.proofs.initials.initials_unit.Goals as goal

pub returns-in_ok-unit-in-Some : goal.returns-in_ok-unit-in-Some
returns-in_ok-unit-in-Some c = (initials_of c.in-Some.initials, ap (option_map initials_of) c.in-Some.is, c.in_ok-unit-in-Some.ensures)
