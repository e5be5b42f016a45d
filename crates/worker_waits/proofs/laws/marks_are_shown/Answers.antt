use Rattle.worker_waits.proofs.Agreeing.{all-agree, expr-agrees}
use Rattle.worker_waits.proofs.laws.marks_are_shown.Goals as goal

pub returns : goal.returns
returns c = (expr-agrees, all-agree)
