use Rattle.std.proofs.Common.{arith}
use Rattle.check_work.specs.Views.{flow_of}
use Rattle.needs_of_statements.proofs.Branching.{head-more}
use Rattle.needs_of_statements.proofs.branches.widen.Goals as goal

pub loop-name-preserved : goal.loop-name-preserved
loop-name-preserved c =
    head-more c.args.names.now c.loop-name.name-index c.name-item.result (flow_of c.args.here.now) (flow_of c.loop-name.here) _ (omega arith) c.name-item.is c.loop-name.invariant c.retype.ensures
