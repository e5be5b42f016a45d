use Rattle.std.proofs.Common.{◌∙◌, ap, map, subst, sym}
use Rattle.std.specs.Prelude.{IfOk}
use Rattle.graphs.specs.Cycles.{IsOnCycle}
use Rattle.worker_ranks.specs.inner.Vertices.{IsRingAt}
use Rattle.worker_ranks.proofs.rings.ring_at.Goals as goal

pub ring_in-requires : goal.ring_in-requires
ring_in-requires c = subst (λ next. IsOnCycle next c.args.first) (sym (ap (map (λ v. v.items)) c.deref.ensures.value ∙ c.in_ok-next.ensures)) c.requires.cycle

pub returns : goal.returns
returns c =
    subst (λ next. IfOk c.ring_in.result (λ ring. IsRingAt next c.args.first ring.first ring.others.items))
    (ap (map (λ v. v.items)) c.deref.ensures.value ∙ c.in_ok-next.ensures) c.ring_in.ensures
