use Rattle.descriptors.specs.Naming.{entry_in}
use Rattle.needs_of_functions.proofs.Defining.{as-variable}
use Rattle.needs_of_functions.proofs.naming.variable_of.Goals as goal

pub returns-in-Variable : goal.returns-in-Variable
returns-in-Variable c =
    as-variable (entry_in c.args.names.now c.args.word.now.name c.args.scope.«module») c.in_ok-found.found.now _ _ _ c.in_ok-found.ensures c.in-Variable.is
