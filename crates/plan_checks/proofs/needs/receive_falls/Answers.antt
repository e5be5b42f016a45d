use Rattle.worker_pairing.specs.Marks.{members_of}
use Rattle.plan_checks.proofs.Falling.{receive-needs}
use Rattle.plan_checks.proofs.needs.receive_falls.Goals as goal

pub returns : goal.returns
returns c =
    receive-needs (members_of c.args.f.now) c.args.ranks.now c.args.asking.worker c.args.asking.number c.args.asking.rank c.args.from c.before-k.result c.nth_falls.result c.before-k.ensures c.nth_falls.ensures
