use Rattle.needs_of_rows.proofs.Finding.{found-then}
use Rattle.needs_of_commands.proofs.commands.place_needs.Goals as goal

pub returns : goal.returns
returns c = found-then _ _ _ _ _ c.command.ensures c.traps.ensures
