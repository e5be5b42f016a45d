use Rattle.std.proofs.Common.{length, subst, sym}
use Rattle.check_words.specs.Sharing.{SameFlow}
use Rattle.check_words.proofs.Same.{same-flow}
use Rattle.check_words.proofs.Standing.{flow-below}
use Rattle.check_work.specs.Views.{flow_of}
use Rattle.flow_joins.proofs.Meeting.{join-by-handles}
use Rattle.flow_joins.proofs.joins.join_here.Goals as goal

pub returns-clause-below : goal.returns-clause-below
returns-clause-below g c = flow-below (length (g.T.Types.atoms c.args.types.now)) c.in_ok-joined.joined _ c.in_ok-_nothing.ensures.entered c.in_ok-joined.ensures.below

pub returns-clause-is : goal.returns-clause-is
returns-clause-is g c =
    join-by-handles (g.T.Types.atoms c.args.types.now) c.args.first.now (flow_of c.args.here.now) _ c.args.first.now c.left-second.result c.in_ok-joined.joined
    (same-flow c.args.first.now) (subst (SameFlow (flow_of c.args.here.now)) (sym c.left-second.ensures) (same-flow (flow_of c.args.here.now))) c.in_ok-_nothing.ensures.entered
    c.in_ok-joined.ensures.is
