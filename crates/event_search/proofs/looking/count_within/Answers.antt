use Rattle.std.proofs.Common.{arith}
use Rattle.worker_pairing.specs.Marks.{members_of}
use Rattle.event_search.proofs.Whole.{count-found, count-past}
use Rattle.event_search.proofs.looking.count_within.Goals as goal

pub returns-in-Some : goal.returns-in-Some
returns-in-Some c =
    count-past (members_of c.args.f.now) c.args.worker c.started.result c.searched-search.result c.searched-search.ensures c.args.most c.in-Some.field-0 c.started.ensures c.in-Some.is

pub returns-in-None : goal.returns-in-None
returns-in-None c =
    count-found (members_of c.args.f.now) c.args.worker c.started.result c.searched-search.result c.searched-search.ensures c.args.most (omega arith) c.started.ensures c.in-None.is
