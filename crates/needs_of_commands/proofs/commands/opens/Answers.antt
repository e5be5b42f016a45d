use Rattle.needs_of_rows.proofs.Finding.{found-then}
use Rattle.needs_of_commands.proofs.commands.opens.Goals as goal

pub returns : goal.returns
returns c = found-then _ _ _ _ _ c.landing.ensures c.goes_on.ensures
