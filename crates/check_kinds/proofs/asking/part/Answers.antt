use Rattle.check_kinds.proofs.Shapes.{copy-in-set, copy-below}
use Rattle.check_kinds.proofs.asking.part.Goals as goal

pub returns-clause-shapes : goal.returns-clause-shapes
returns-clause-shapes c = copy-in-set c.args.s.now c.in_ok-copy.field-0 c.args.set c.in_set.result c.in_ok-copy.ensures c.in_set.ensures.shapes

pub returns-clause-defined : goal.returns-clause-defined
returns-clause-defined c = copy-below c.args.s.now c.in_ok-copy.field-0 c.in_set.result c.in_ok-copy.ensures c.in_set.ensures.defined
