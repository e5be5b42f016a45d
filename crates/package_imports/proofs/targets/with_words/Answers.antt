use Rattle.std.proofs.Common.{◌∙◌, sym}
use Rattle.package_imports.proofs.Stepping.{dotted-all, dotted-more}
use Rattle.package_imports.proofs.targets.with_words.Goals as goal

pub loop-word-preserved : goal.loop-word-preserved
loop-word-preserved c =
    c.loop-word.invariant
    ∙ dotted-more c.loop-word.path c.in_ok-longer.longer c.args.words.now c.loop-word.word-index c.word-item.result c.loop-word-test.true c.word-item.is c.in_ok-longer.ensures

pub returns : goal.returns
returns c = sym (c.loop-word.invariant ∙ dotted-all c.loop-word.path c.args.words.now c.loop-word.word-index c.loop-word-test.false)
