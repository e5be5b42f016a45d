use Rattle.worker_pairing.specs.Marks.{members_of}
use Rattle.plan_checks.proofs.Falling.{done-needs}
use Rattle.plan_checks.proofs.needs.done_falls.Goals as goal

pub returns : goal.returns
returns c =
    done-needs (members_of c.args.f.now) c.args.ranks.now c.args.asking.worker c.args.asking.number c.args.asking.rank c.args.to c.before-sent.result c.last_of_falls.result c.before-sent.ensures
    c.last_of_falls.ensures
