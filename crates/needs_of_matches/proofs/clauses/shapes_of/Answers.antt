use Rattle.std.proofs.Common.{◌≡◌, arith, length}
use Rattle.needs_of_matches.proofs.ClauseSteps.{all-first, first-more, none-first}
use Rattle.needs_of_matches.proofs.clauses.shapes_of.Goals as goal

pub loop-p-init : goal.loop-p-init
loop-p-init c = (none-first c.args.patterns.now, λ n. tt)

pub loop-p-preserved : goal.loop-p-preserved
loop-p-preserved c = (
  first-more c.args.patterns.now c.loop-p.p-index c.p-item.result c.loop-p.sem c.in_ok-sem.sem c.loop-p-test.true c.p-item.is c.loop-p.invariant.0 c.in_ok-sem.ensures.shapes,
  λ n. c.in_ok-sem.ensures.defined n (c.loop-p.invariant.1 n),
)

pub returns-clause-shapes : goal.returns-clause-shapes
returns-clause-shapes c =
    let all : c.loop-p.p-index ≡ length c.args.patterns.now = omega (arith, c.loop-p.auto.p-index-end, c.loop-p-test.false) in
    all-first c.args.patterns.now c.loop-p.p-index c.loop-p.sem all c.loop-p.invariant.0
