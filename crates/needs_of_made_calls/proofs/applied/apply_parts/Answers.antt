use Rattle.check_kinds.proofs.Over.{over-out}
use Rattle.needs_of_made_calls.proofs.applied.apply_parts.Goals as goal

pub returns-in-empty-clause-comes : goal.returns-in-empty-clause-comes
returns-in-empty-clause-comes g c = over-out _ _ _
