use Rattle.std.proofs.Common.{ap}
use Rattle.worker_members.specs.Held.{kind_of}
use Rattle.plan_checks.specs.Stripping.{numbered}
use Rattle.plan_checks.proofs.Due.{sent-so}
use Rattle.plan_checks.proofs.pairs.without_pairs.Goals as goal

pub returns : goal.returns
returns c s same =
    c.without_sent.ensures (numbered c.args.worker c.args.number s) (λ i. record { worker = c.args.worker; number = c.args.number; at = (same i).at })
    (sent-so c.args.worker c.args.number s (kind_of c.args.event.kind) c.sent_to.result c.sent_to.ensures (ap (λ o. o.kind) same))
