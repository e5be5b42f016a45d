use Rattle.type_model.proofs.SameTypes.{NamesBelow-same}
use Rattle.check_kinds.proofs.Shapes.{both-of-copies}
use Rattle.check_kinds.proofs.combined.both.Goals as goal

pub returns-clause-shapes : goal.returns-clause-shapes
returns-clause-shapes c = λ env x. both-of-copies env x c.args.s.now c.args.t.now c.in_ok-left.left.value c.in_ok-right.right.value c.in_ok-left.ensures c.in_ok-right.ensures

pub returns-clause-defined : goal.returns-clause-defined
returns-clause-defined c = λ n h k. (NamesBelow-same n c.args.s.now c.in_ok-left.left.value c.in_ok-left.ensures h, NamesBelow-same n c.args.t.now c.in_ok-right.right.value c.in_ok-right.ensures k)
