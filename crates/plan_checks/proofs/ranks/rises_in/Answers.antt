use Rattle.std.proofs.Common.{◌<◌, arith, false, length, true}
use Rattle.worker_pairing.specs.Faults.{kinds_of}
use Rattle.worker_pairing.specs.Marks.{members_of}
use Rattle.plan_checks.proofs.Falling.{RisesWithin, first-within, rises-all}
use Rattle.plan_checks.proofs.Loops.{all-pass, one-fails, one-more}
use Rattle.plan_checks.proofs.ranks.rises_in.Goals as goal

pub loop-number-init : goal.loop-number-init
loop-number-init c = (omega arith, first-within (members_of c.args.f.now) c.args.ranks.now c.args.worker)

pub loop-number-preserved : goal.loop-number-preserved
loop-number-preserved c =
    (omega arith, one-more (RisesWithin (members_of c.args.f.now) c.args.ranks.now c.args.worker) c.loop-number.number c.loop-number.invariant.1 (λ there. c.rises_to.ensures.0 c.if-not-rises_to.false))

pub returns-then-not-rises_to : goal.returns-then-not-rises_to
returns-then-not-rises_to c =
    let ms = members_of c.args.f.now in
    let there : c.loop-number.number < length (kinds_of ms c.args.worker) = (let many = c.count-number-end.ensures in let test = c.loop-number-test.true in omega (arith, many, test)) in
    rises-all ms c.args.ranks.now c.args.worker false
    (one-fails (RisesWithin ms c.args.ranks.now c.args.worker) c.loop-number.number c.rises_to.result (λ rises. c.rises_to.ensures.1 (rises there)) c.if-not-rises_to.true)

pub returns : goal.returns
returns c =
    let ms = members_of c.args.f.now in
    rises-all ms c.args.ranks.now c.args.worker true
    (all-pass (RisesWithin ms c.args.ranks.now c.args.worker) c.loop-number.number c.count-number-end.result (omega arith) c.loop-number.invariant.1
    (λ i le there. let many = c.count-number-end.ensures in absurd (omega (arith, many, le, there))))
