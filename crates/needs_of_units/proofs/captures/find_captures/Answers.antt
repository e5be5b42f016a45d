use Rattle.std.proofs.Common.{arith}
use Rattle.needs_of_units.proofs.Capturing.{captures-more}
use Rattle.needs_of_units.proofs.captures.find_captures.Goals as goal

pub loop-word-preserved : goal.loop-word-preserved
loop-word-preserved c =
    captures-more c.args.variables.now c.args.uses.now c.loop-word.word-index c.word-item.result _ _ (omega arith) c.word-item.is c.loop-word.invariant
    c.in_ok-capture_named.ensures
