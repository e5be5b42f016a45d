use Rattle.std.proofs.Common.{take, map}
use Rattle.graphs.specs.inner.Searching.{AddsEdges}
use Rattle.graphs.proofs.search.follows_all.Given as goal

abbrev pub invariant-loop-follower : goal.invariant-loop-follower
invariant-loop-follower l = AddsEdges l.number (take l.follower-index l.list) (map (λ v. v.items) l.initial.back.items) (map (λ v. v.items) l.back.items)
