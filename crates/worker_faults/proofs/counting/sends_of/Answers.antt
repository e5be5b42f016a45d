use Rattle.std.proofs.Common.{◌∙◌, ap}
use Rattle.worker_pairing.specs.Events.{count, sends_to}
use Rattle.worker_faults.specs.Routes.{kinds_said}
use Rattle.worker_faults.proofs.Counted.{kinds-none, kinds-read}
use Rattle.worker_faults.proofs.counting.sends_of.Goals as goal

pub returns-in-Some : goal.returns-in-Some
returns-in-Some c =
    c.count_sends.ensures ∙ ap (λ ss. count (sends_to c.args.to) (kinds_said ss)) c.deref.ensures.value
    ∙ ap (count (sends_to c.args.to)) (kinds-read c.args.workers.now c.args.worker c.in-Some.member.now c.in-Some.ensures.lookup.3.0 c.in-Some.ensures.lookup.1)

pub returns-in-None : goal.returns-in-None
returns-in-None c = ap (count (sends_to c.args.to)) (kinds-none c.args.workers.now c.args.worker c.in-None.ensures.lookup.3)
