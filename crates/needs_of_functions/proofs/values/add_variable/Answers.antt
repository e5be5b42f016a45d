use Rattle.check_words.proofs.Standing.{stands-beside}
use Rattle.check_work.specs.Views.{state_of}
use Rattle.needs_of_functions.proofs.Storing.{adds-variable}
use Rattle.needs_of_functions.proofs.values.add_variable.Goals as goal

pub returns-clause-stands : goal.returns-clause-stands
returns-clause-stands c = λ env h. stands-beside (state_of env c.args.work.now) h _ _ _ _

pub returns-clause-adds : goal.returns-clause-adds
returns-clause-adds c = λ env.
    adds-variable c.args.names.now c.args.d.now c.args.ty c.in_ok-v.v.0 c.in_ok-v.v.1.now (state_of env c.args.work.now) c.in_ok-variable.variable _ c.in_ok-v.ensures c.in_ok-variable.ensures
    c.in_ok-push.ensures.items
