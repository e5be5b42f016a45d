use Rattle.detail_questions.proofs.Lacking.{lack-more}
use Rattle.detail_questions.proofs.errors.lacks.Goals as goal

pub loop-pair-preserved : goal.loop-pair-preserved
loop-pair-preserved c =
    lack-more c.args.names.now c.args.pairs.now c.loop-pair.pair-index c.pair-item.result c.loop-pair-test.true c.pair-item.is c.loop-pair.defs.items c.put_lack.new.defs.items c.loop-pair.invariant c.in_ok-put_lack.ensures
