use Rattle.std.proofs.Common.{arith}
use Rattle.worker_pairing.specs.Marks.{members_of}
use Rattle.event_search.proofs.Whole.{before-found}
use Rattle.event_search.proofs.looking.before.Goals as goal

pub returns : goal.returns
returns c = before-found (members_of c.args.f.now) c.args.worker c.started.result c.searched-search.result c.searched-search.ensures c.args.which c.args.number (omega arith) c.started.ensures
