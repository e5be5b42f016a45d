use Rattle.std.proofs.Common.{◌∙◌, ap, map}
use Rattle.worker_pairing.specs.Events.{count, receives_from}
use Rattle.worker_pairing.specs.Faults.{kinds_of}
use Rattle.worker_members.specs.Held.{member_held}
use Rattle.worker_faults.proofs.counting.received_in.Goals as goal

pub returns : goal.returns
returns c = c.receives_of.ensures ∙ ap (λ ws. count (receives_from c.args.route.from) (kinds_of (map member_held ws) c.args.route.to)) c.deref.ensures.value
