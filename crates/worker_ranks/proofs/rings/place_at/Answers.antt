use Rattle.worker_ranks.proofs.Ringed.{place-past, place-there}
use Rattle.worker_ranks.proofs.rings.place_at.Goals as goal

pub returns-in-Some : goal.returns-in-Some
returns-in-Some c = place-there c.args.text.now c.args.number c.in-Some.event.now c.in-Some.ensures.lookup.3.0 c.in-Some.ensures.lookup.1

pub returns-in-None : goal.returns-in-None
returns-in-None c = place-past c.args.text.now c.args.number c.in-None.ensures.lookup.3
