use Rattle.code_needs.proofs.Beyond.{all-decided, nothing-beyond}
use Rattle.code_needs.proofs.laws.needs_decide_all.Goals as goal

pub returns-clause-beyond : goal.returns-clause-beyond
returns-clause-beyond c = nothing-beyond

pub returns-clause-all : goal.returns-clause-all
returns-clause-all c = all-decided
