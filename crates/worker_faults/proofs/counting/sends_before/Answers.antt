use Rattle.std.proofs.Common.{◌∙◌, ap, take}
use Rattle.worker_pairing.specs.Events.{count, sends_to}
use Rattle.worker_faults.specs.Routes.{kinds_said}
use Rattle.worker_faults.proofs.Counted.{first-read, none-read}
use Rattle.worker_faults.proofs.counting.sends_before.Goals as goal

pub returns-in-Some : goal.returns-in-Some
returns-in-Some c =
    c.count_sends.ensures ∙ ap (λ ss. count (sends_to c.args.to) (kinds_said ss)) (c.first_sayings.ensures ∙ ap (take c.args.number) c.deref.ensures.value)
    ∙ ap (count (sends_to c.args.to)) (first-read c.args.workers.now c.args.worker c.in-Some.member.now c.args.number c.in-Some.ensures.lookup.3.0 c.in-Some.ensures.lookup.1)

pub returns-in-None : goal.returns-in-None
returns-in-None c = none-read (sends_to c.args.to) c.args.workers.now c.args.worker c.args.number c.in-None.ensures.lookup.3
