use Rattle.std.proofs.Common.{map}
use Rattle.graphs.proofs.Ordered.{found-none}
use Rattle.graphs.proofs.order.has_no_cycle.Goals as goal

pub returns : goal.returns
returns c = found-none (map (λ v. v.items) c.args.next.now) _ _ c.is_some.ensures c.in_ok-parts_first.ensures.found
