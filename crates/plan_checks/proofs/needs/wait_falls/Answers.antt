use Rattle.std.proofs.Common.{arith}
use Rattle.bal_base.proofs.Loops.{at_end}
use Rattle.worker_pairing.specs.Marks.{members_of}
use Rattle.plan_checks.proofs.Falling.{NameFalls, name-fails, name-more, names-fall}
use Rattle.plan_checks.proofs.needs.wait_falls.Goals as goal

pub loop-name-preserved : goal.loop-name-preserved
loop-name-preserved c =
    name-more (NameFalls (members_of c.args.f.now) c.args.ranks.now c.args.least) c.args.names.now c.loop-name.name-index _ c.loop-name-test.true c.loop-name.invariant
    (c.named_falls.ensures.0 c.if-not-named_falls.false)

pub returns-then-not-named_falls : goal.returns-then-not-named_falls
returns-then-not-named_falls c =
    names-fall (members_of c.args.f.now) c.args.ranks.now c.args.least c.args.names.now _
    (name-fails (NameFalls (members_of c.args.f.now) c.args.ranks.now c.args.least) c.args.names.now c.loop-name.name-index _ c.loop-name-test.true c.named_falls.result c.named_falls.ensures.1
    c.if-not-named_falls.true)

pub returns : goal.returns
returns c =
    names-fall (members_of c.args.f.now) c.args.ranks.now c.args.least c.args.names.now _
    (at_end (NameFalls (members_of c.args.f.now) c.args.ranks.now c.args.least) c.args.names.now c.loop-name.name-index (grind (arith, c.loop-name-test.false)) c.loop-name.invariant)
