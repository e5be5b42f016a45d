use Rattle.worker_waits.proofs.Ahead.{branch-lasts, exec-lasts, turn-lasts}
use Rattle.worker_waits.proofs.laws.statements_keep_events.Goals as goal

pub returns-clause-statements : goal.returns-clause-statements
returns-clause-statements g = exec-lasts

pub returns-clause-choices : goal.returns-clause-choices
returns-clause-choices g = branch-lasts

pub returns-clause-turns : goal.returns-clause-turns
returns-clause-turns g = turn-lasts
