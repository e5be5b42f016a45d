use Rattle.worker_pairing.specs.Marks.{members_of}
use Rattle.event_search.proofs.Whole.{nth-found, nth-none}
use Rattle.event_search.proofs.looking.nth.Goals as goal

pub returns-in-Some : goal.returns-in-Some
returns-in-Some c =
    nth-found (members_of c.args.f.now) c.args.worker c.started.result c.searched-search.result c.searched-search.ensures c.args.which c.args.k c.started.ensures c.in-Some.event c.requires c.in-Some.is

pub returns-in-None : goal.returns-in-None
returns-in-None c = nth-none (members_of c.args.f.now) c.args.worker c.started.result c.searched-search.result c.searched-search.ensures c.args.which c.args.k c.started.ensures c.in-None.is
