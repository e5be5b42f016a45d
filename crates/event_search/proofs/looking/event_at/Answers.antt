use Rattle.worker_pairing.specs.Marks.{members_of}
use Rattle.event_search.proofs.Whole.{event-found}
use Rattle.event_search.proofs.looking.event_at.Goals as goal

pub returns : goal.returns
returns c = event-found (members_of c.args.f.now) c.args.worker c.started.result c.searched-search.result c.searched-search.ensures c.args.number c.started.ensures
