use Rattle.worker_ranks.proofs.Placed.{rank-ok}
use Rattle.worker_ranks.proofs.order.rank_in.Goals as goal

pub returns-in-Some : goal.returns-in-Some
returns-in-Some c = rank-ok c.args.order.now c.args.number c.in-Some.place c.as_rank.result c.as_rank.ensures c.in-Some.ensures
