use Rattle.std.proofs.Common.{◌≡◌, ◌∙◌, ℕ, ap, map, subst, sym}
use Rattle.graphs.specs.Cycles.{IsOnCycle}
use Rattle.worker_members.specs.Held.{member_held, numbered_held}
use Rattle.worker_ranks.specs.inner.SideBySide.{AreRuns}
use Rattle.worker_ranks.specs.inner.Turned.{groups_held, laid}
use Rattle.worker_ranks.specs.inner.Vertices.{close_of, vertex_of}
use Rattle.worker_ranks.proofs.Orderable.{acyclic-orderable}
use Rattle.worker_ranks.proofs.Ringed.{ring-told}
use Rattle.worker_ranks.proofs.rings.ring_fault.Goals as goal

pub ring_of-requires-clause-runs : goal.ring_of-requires-clause-runs
ring_of-requires-clause-runs c = subst (λ gs. AreRuns (groups_held gs)) (sym c.deref.ensures.value) c.in_ok-runs.ensures.runs

pub ring_of-requires-clause-cyclic : goal.ring_of-requires-clause-cyclic
ring_of-requires-clause-cyclic c none =
    let ms = map member_held c.args.workers.now in
    let held : laid (groups_held c.deref.result.now) ≡ map (vertex_of ms) (map numbered_held c.args.text.now) = ap (λ gs. laid (groups_held gs)) c.deref.ensures.value ∙ c.in_ok-runs.ensures.laid in
    c.requires.none (acyclic-orderable ms (subst (λ vs. (i : ℕ) → ¬ IsOnCycle (close_of vs) i) (held ∙ ap (map (vertex_of ms)) c.requires.text) none))

pub returns : goal.returns
returns c =
    let ms = map member_held c.args.workers.now in
    let held : laid (groups_held c.deref.result.now) ≡ map (vertex_of ms) (map numbered_held c.args.text.now) = ap (λ gs. laid (groups_held gs)) c.deref.ensures.value ∙ c.in_ok-runs.ensures.laid in
    ring-told ms (map numbered_held c.args.text.now) (laid (groups_held c.deref.result.now)) c.in_ok-ring.ring.first c.in_ok-ring.ring.others.items c.shown_ring.result c.requires.text held c.in_ok-ring.ensures c.shown_ring.ensures
