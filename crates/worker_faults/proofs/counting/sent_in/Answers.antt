use Rattle.std.proofs.Common.{◌∙◌, ap, map}
use Rattle.worker_pairing.specs.Events.{count, sends_to}
use Rattle.worker_pairing.specs.Faults.{kinds_of}
use Rattle.worker_members.specs.Held.{member_held}
use Rattle.worker_faults.proofs.counting.sent_in.Goals as goal

pub returns : goal.returns
returns c = c.sends_of.ensures ∙ ap (λ ws. count (sends_to c.args.route.to) (kinds_of (map member_held ws) c.args.route.from)) c.deref.ensures.value
