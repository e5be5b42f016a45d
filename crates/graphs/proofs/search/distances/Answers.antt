use Rattle.std.proofs.Common.{◌+◌, arith, map, length, rules, refl, subst, []}
use Rattle.graphs.specs.inner.Searching.{AreNoted, IsBefore}
use Rattle.graphs.proofs.Levels.{all-away, ended, next-level, started}
use Rattle.graphs.proofs.search.distances.Goals as goal

pub loop-level-init : goal.loop-level-init
loop-level-init c next r = started (λ v. v.items) next c.args.back.now r (length c.args.back.now) c.args.target c.in_ok-away.away.items c.in_ok-edge.edge.items refl c.requires c.in_ok-away.ensures c.in_ok-edge.ensures

pub loop-level-preserved : goal.loop-level-preserved
loop-level-preserved c next r = next-level next c.args.target c.loop-level.level c.loop-level.away.items c.loop-level.edge.items (c.loop-level.invariant next r) (map (λ v. v.items) c.args.back.now) c.one_level.new.away.items c.in_ok-edge-2.edge.items r (search rules)
    (subst (λ edge. AreNoted (IsBefore (map (λ v. v.items) c.args.back.now) edge) (c.loop-level.level + 1) c.loop-level.away.items [] c.one_level.new.away.items c.in_ok-edge-2.edge.items) c.deref.ensures.value c.in_ok-edge-2.ensures)

pub returns-then-is_empty : goal.returns-then-is_empty
returns-then-is_empty c next r = all-away next c.args.target c.loop-level.level c.loop-level.away.items c.loop-level.edge.items (c.loop-level.invariant next r) (search rules)

pub returns : goal.returns
returns c next r = ended (λ v. v.items) next c.args.back.now r c.args.target c.loop-level.level c.loop-level.away.items c.loop-level.edge.items (omega (arith, c.loop-level-test.false)) (c.loop-level.invariant next r)
