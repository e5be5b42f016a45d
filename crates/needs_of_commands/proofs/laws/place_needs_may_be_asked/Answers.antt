use Rattle.needs_of_commands.proofs.MayPlaces.{places-asked}
use Rattle.needs_of_commands.proofs.PassedDefined.{passed-defined}
use Rattle.needs_of_commands.proofs.laws.place_needs_may_be_asked.Goals as goal

pub returns-clause-passed : goal.returns-clause-passed
returns-clause-passed c = passed-defined

pub returns-clause-asked : goal.returns-clause-asked
returns-clause-asked c = places-asked
