use Rattle.std.proofs.Common.{arith}
use Rattle.name_resolution.proofs.Naming.{none-left, one-named, one-stops}
use Rattle.name_resolution.proofs.named.definitions.Goals as goal

pub definition-requires-clause-placed : goal.definition-requires-clause-placed
definition-requires-clause-placed c = let lt = c.loop-number-test.true in let le = c.requires.long in grind (arith, lt, le)

pub loop-number-preserved : goal.loop-number-preserved
loop-number-preserved c = one-named c.args.home c.args.outlines.now c.args.front.now c.loop-number.number c.index-front-number.result (grind (arith, c.loop-number-test.true)) c.index-front-number.is c.loop-number.invariant c.in-Ok.ensures

pub returns-in-Err : goal.returns-in-Err
returns-in-Err c env = one-stops c.args.home c.args.outlines.now c.args.front.now c.loop-number.number c.index-front-number.result c.in-Err.stop (grind (arith, c.loop-number-test.true)) c.index-front-number.is c.loop-number.invariant env (c.in-Err.ensures env)

pub returns : goal.returns
returns c env = none-left c.args.home c.args.outlines.now c.args.front.now c.loop-number.number (omega (arith, c.loop-number-test.false)) c.loop-number.invariant env
