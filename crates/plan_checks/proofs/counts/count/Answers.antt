use Rattle.std.proofs.Common.{◌∙◌, arith, length, sym}
use Rattle.worker_pairing.specs.Faults.{kinds_of}
use Rattle.worker_pairing.specs.Marks.{members_of}
use Rattle.plan_checks.proofs.Counting.{kinds-within}
use Rattle.plan_checks.proofs.Within.{is-past}
use Rattle.plan_checks.proofs.counts.count.Goals as goal

pub returns-in-None : goal.returns-in-None
returns-in-None c =
    let many = length (kinds_of (members_of c.args.f.now) c.args.worker) in
    let past = is-past many c.args.most many (sym c.in-None.is ∙ c.count_within.ensures) in
    let within = kinds-within (members_of c.args.f.now) c.args.worker in
    let few = c.requires in
    absurd (omega (arith, past, within, few))
