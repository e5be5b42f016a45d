use Rattle.needs_of_commands.proofs.Descent.{rows-descend, traps-stand}
use Rattle.needs_of_commands.proofs.laws.traps_stand_before.Goals as goal

pub returns-clause-before : goal.returns-clause-before
returns-clause-before c = traps-stand

pub returns-clause-descend : goal.returns-clause-descend
returns-clause-descend c = rows-descend
