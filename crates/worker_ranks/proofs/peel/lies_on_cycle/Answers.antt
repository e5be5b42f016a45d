use Rattle.std.proofs.Common.{map}
use Rattle.worker_ranks.proofs.peel.lies_on_cycle.Goals as goal

pub returns-clause-none : goal.returns-clause-none
returns-clause-none c = c.is_found.ensures.none (map (λ v. v.items) c.args.next.now) c.args.number c.in_ok-found.ensures

pub returns-clause-cycle : goal.returns-clause-cycle
returns-clause-cycle c = c.is_found.ensures.cycle (map (λ v. v.items) c.args.next.now) c.args.number c.in_ok-found.ensures
