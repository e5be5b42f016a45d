use Rattle.std.proofs.Common.{map, subst, sym}
use Rattle.worker_ranks.specs.inner.Free.{AreFree}
use Rattle.worker_ranks.proofs.NotOnCycle.{frees-back, frees-next, none-marked}
use Rattle.worker_ranks.proofs.peel.freed_numbers.Goals as goal

pub returns : goal.returns
returns c =
    let next = map (λ v. v.items) c.args.next.now in
    let back = map (λ v. v.items) c.args.back.now in
    c.peel-2.ensures next (frees-back next back c.requires.reversed) (c.peel.ensures next (frees-next next) (subst (AreFree next) (sym c.in_ok-freed.ensures) (none-marked next _)))
