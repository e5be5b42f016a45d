use Rattle.std.proofs.Common.{arith}
use Rattle.needs_of_functions.proofs.FunctionsBegun.{Copies}
use Rattle.needs_of_functions.proofs.Zipping.{zip-more}
use Rattle.needs_of_functions.proofs.functions.parameter_slots.Goals as goal

pub loop-t-preserved : goal.loop-t-preserved
loop-t-preserved c =
    zip-more Copies c.args.params.now c.loop-t.slots.items _ c.loop-t.t-index c.t-item.result c.in_ok-copied.field-0 (omega arith) c.t-item.is c.loop-t.invariant c.in_ok-copied.ensures.is
    c.in_ok-push.ensures.items
