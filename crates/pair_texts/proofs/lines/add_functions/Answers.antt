use Rattle.std.proofs.Common.{arith}
use Rattle.pair_texts.specs.PairText.{function_text}
use Rattle.pair_texts.proofs.Adding.{adds-zipped_all, adds-zipped_more}
use Rattle.pair_texts.proofs.lines.add_functions.Goals as goal

pub loop-i-preserved : goal.loop-i-preserved
loop-i-preserved c =
    record {
      told =
          adds-zipped_more (function_text c.args.modules.now) c.args.functions.now c.args.plans.now c.loop-i.i _ _ _ _ _ (omega (arith, c.loop-i-test.true, c.min-count.ensures))
          c.index-functions-i-in-loop-i.is c.index-plans-i.is c.loop-i.invariant.told c.in_ok-add_function.ensures;
      stands = c.reached-spot.ensures;
    }

pub returns : goal.returns
returns c =
    adds-zipped_all (function_text c.args.modules.now) c.args.functions.now c.args.plans.now c.loop-i.i _ _ (omega (arith, c.loop-i-test.false, c.min-count.ensures)) c.loop-i.invariant.told
