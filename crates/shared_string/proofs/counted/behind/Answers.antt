use Rattle.shared_string.proofs.Behind.{behind-none, behind-more}
use Rattle.shared_string.proofs.counted.behind.Goals as goal

pub loop-passed-init : goal.loop-passed-init
loop-passed-init c = (c.utf8.text, behind-none c.args.text.now c.utf8.text)

pub loop-passed-preserved : goal.loop-passed-preserved
loop-passed-preserved c =
    (c.behind_first-left.utf8, behind-more c.args.text.now c.loop-passed.left.now c.behind_first-left.result.now c.loop-passed._passed 1 c.loop-passed.invariant.1 c.behind_first-left.ensures)
