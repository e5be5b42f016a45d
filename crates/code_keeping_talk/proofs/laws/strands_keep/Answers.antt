use Rattle.code_keeping_talk.proofs.Closing.{closing-keeps}
use Rattle.code_keeping_talk.proofs.Continuing.{continuing-keeps}
use Rattle.code_keeping_talk.proofs.Ending.{ending-keeps}
use Rattle.code_keeping_talk.proofs.Picking.{picking-keeps}
use Rattle.code_keeping_talk.proofs.laws.strands_keep.Goals as goal

pub returns-clause-picks : goal.returns-clause-picks
returns-clause-picks c = picking-keeps

pub returns-clause-closes : goal.returns-clause-closes
returns-clause-closes c = closing-keeps

pub returns-clause-ends : goal.returns-clause-ends
returns-clause-ends c = ending-keeps

pub returns-clause-continues : goal.returns-clause-continues
returns-clause-continues c = continuing-keeps
