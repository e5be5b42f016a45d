use Rattle.std.specs.Option.{option_copied}
use Rattle.std.proofs.Common.{Option, ℕ, subst, sym}
use Rattle.needs_of_places.specs.inner.Awaited.{AwaitsOne}
use Rattle.needs_of_places.specs.Sites.{known_at}
use Rattle.needs_of_places.proofs.AwaitedOne.{worker-left}
use Rattle.needs_of_places.proofs.waits.awaited.Goals as goal

pub worker_result-requires : goal.worker_result-requires
worker_result-requires c = c.requires.never

pub returns-in-Some : goal.returns-in-Some
returns-in-Some c =
    worker-left (known_at c.args.site) (option_copied c.args.held) c.args.name c.in-Some.worker c.args.left.now _ _ _ c.in-Some.is c.worker_result.ensures c.worker_ends.ensures

pub returns-in-None : goal.returns-in-None
returns-in-None c =
    subst (λ (name : Option ℕ). AwaitsOne (known_at c.args.site) (option_copied c.args.held) name c.args.left.now c.args.found.now c.future_ends.new.found c.future_ends.result.now) (sym c.in-None.is)
    (c.future_ends.ensures (known_at c.args.site))
