use Rattle.std.proofs.Common.{rules}
use Rattle.graphs.proofs.Noting.{one-is-noted}
use Rattle.graphs.proofs.search.note.Goals as goal

pub returns-in_ok-push-in-None : goal.returns-in_ok-push-in-None
returns-in_ok-push-in-None c = one-is-noted c.args.away.now.items c.args.found.now.items c.push.new.self.items c.args.number c.args.level (search rules) (search rules) c.in_ok-push-in-None.ensures.items
