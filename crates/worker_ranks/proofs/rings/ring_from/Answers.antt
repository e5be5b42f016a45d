use Rattle.std.proofs.Common.{map, refl, subst}
use Rattle.std.specs.Prelude.{option_map}
use Rattle.graphs.specs.Cycles.{IsCycleFound}
use Rattle.worker_ranks.proofs.NotOnCycle.{cycle-placed}
use Rattle.worker_ranks.proofs.rings.ring_from.Goals as goal

pub first_cycle-requires-clause-placed : goal.first_cycle-requires-clause-placed
first_cycle-requires-clause-placed c = cycle-placed (map (λ v. v.items) c.args.next.now) (λ v. v.items) c.args.back.now c.args.first c.requires.reversed c.requires.cycle

pub returns : goal.returns
returns c = (refl, subst (λ o. IsCycleFound (map (λ v. v.items) c.args.next.now) c.args.first (option_map (λ v. v.items) o)) c.in-Some.is c.in_ok-found.ensures)

pub unreachable-requires : goal.unreachable-requires
unreachable-requires c = subst (λ o. IsCycleFound (map (λ v. v.items) c.args.next.now) c.args.first (option_map (λ v. v.items) o)) c.in-None.is c.in_ok-found.ensures c.requires.cycle
