use Rattle.std.proofs.Common.{◌∙◌, sym, arith}
use Rattle.parse_types.proofs.NestingLemmas.{enclosed-more}
use Rattle.parse_types.proofs.nesting.enclosed_len.Goals as goal

pub loop-i-preserved : goal.loop-i-preserved
loop-i-preserved c = record {
  front = c.loop-i.invariant.front ∙ enclosed-more c.args.tokens.now c.loop-i.i c.loop-i.depth c.in-Some.behind c.index-tokens-i.result c.loop-i-test.true c.index-tokens-i.is (sym c.in-Some.ensures.behind);
  slowly = omega (arith, c.in-Some.ensures.slowly, c.loop-i.invariant.slowly);
}
