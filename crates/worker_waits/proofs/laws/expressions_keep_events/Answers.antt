use Rattle.worker_waits.specs.Left.{expr_shown}
use Rattle.worker_waits.proofs.Ahead.{eval-lasts}
use Rattle.worker_waits.proofs.Told.{fair, told-expr}
use Rattle.worker_waits.proofs.laws.expressions_keep_events.Goals as goal

pub returns-clause-keeps : goal.returns-clause-keeps
returns-clause-keeps g = eval-lasts

pub returns-clause-silent : goal.returns-clause-silent
returns-clause-silent g e = fair (expr_shown e) (told-expr e)
