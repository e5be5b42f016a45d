use Rattle.std.proofs.Common.{subst, sym}
use Rattle.worker_ranks.specs.inner.SideBySide.{IsGrown}
use Rattle.worker_ranks.specs.inner.Turned.{groups_held}
use Rattle.worker_ranks.specs.inner.Vertices.{vertex_held}
use Rattle.worker_ranks.proofs.Neighbours.{grown-new}
use Rattle.worker_ranks.proofs.runs.begin.Goals as goal

pub returns : goal.returns
returns c =
    subst (λ gs. IsGrown (groups_held c.args.runs.now.items) (groups_held gs) (vertex_held c.args.node)) (sym c.in_ok-push.ensures.items)
    (grown-new c.args.runs.now.items c.in_ok-first.first (vertex_held c.args.node) c.in_ok-first.ensures)
