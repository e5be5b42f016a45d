use Rattle.descriptors.specs.Naming.{entry_in}
use Rattle.needs_of_functions.proofs.Defining.{as-function}
use Rattle.needs_of_functions.proofs.naming.signature_of.Goals as goal

pub returns-in-Function : goal.returns-in-Function
returns-in-Function c =
    as-function (entry_in c.args.names.now c.args.word.now.name c.args.scope.«module») c.in_ok-found.found.now c.in-Function.f c.in_ok-found.ensures c.in-Function.is
