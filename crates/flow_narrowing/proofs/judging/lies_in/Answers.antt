use Rattle.std.proofs.Common.{length}
use Rattle.flow_narrowing.proofs.Failing.{settles}
use Rattle.flow_narrowing.proofs.Written.{part-below}
use Rattle.flow_narrowing.proofs.judging.lies_in.Goals as goal

pub sub-requires-clause-left : goal.sub-requires-clause-left
sub-requires-clause-left g c = part-below (length (g.T.Types.atoms c.args.types.now)) c.args.kind c.args.s.now c.in_ok-part.part c.in_ok-part.ensures c.requires.left

pub returns-clause-settles : goal.returns-clause-settles
returns-clause-settles g c =
    settles (g.T.Types.atoms c.args.types.now) c.args.s.now c.args.t.now c.args.kind c.in_ok-part.part c.in_ok-answer.answer c.is_yes.result c.in_ok-part.ensures
    c.in_ok-answer.ensures.answer c.is_yes.ensures
