use Rattle.std.proofs.Common.{length}
use Rattle.flow_narrowing.proofs.Failing.{failing-from}
use Rattle.flow_narrowing.proofs.Written.{not-below}
use Rattle.flow_narrowing.proofs.judging.failing.Goals as goal

pub judge-requires-clause-failed : goal.judge-requires-clause-failed
judge-requires-clause-failed g c = not-below (length (g.T.Types.atoms c.args.types.now)) c.args.t.now c.in_ok-failed.failed c.in_ok-failed.ensures c.requires.right

pub returns-clause-failing : goal.returns-clause-failing
returns-clause-failing g c =
    failing-from (g.T.Types.atoms c.args.types.now) (g.T.Types.atoms c.judge.new.types) (g.T.Types.atoms c.judge-2.new.types) (g.T.Types.atoms c.judge-3.new.types)
    c.args.s.now c.args.t.now c.in_ok-failed.failed c.in_ok-failed-2.failed c.in_ok-failed-3.failed c.in_ok-failed-4.failed c.judge-4.result
    c.judge.ensures.atoms c.judge-2.ensures.atoms c.judge-3.ensures.atoms
    c.in_ok-failed.ensures c.in_ok-failed-2.ensures.judged c.in_ok-failed-3.ensures.judged c.in_ok-failed-4.ensures.judged c.judge-4.ensures.judged
