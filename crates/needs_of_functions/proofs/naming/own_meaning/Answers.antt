use Rattle.needs_of_functions.proofs.Defining.{defined-as}
use Rattle.needs_of_functions.proofs.naming.own_meaning.Goals as goal

pub returns-in-Ok : goal.returns-in-Ok
returns-in-Ok c = defined-as c.args.names.now c.args.scope c.in-Ok.meaning.now _ c.args.word.now.name c.share.ensures c.in-Ok.ensures.found
