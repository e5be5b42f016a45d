use Rattle.code_keeping_changes.proofs.Pushing.{pushes-are-done}
use Rattle.code_keeping_changes.proofs.Removing.{removals-are-done}
use Rattle.code_keeping_changes.proofs.laws.changes_are_done.Goals as goal

pub returns-clause-removals : goal.returns-clause-removals
returns-clause-removals c = removals-are-done

pub returns-clause-pushes : goal.returns-clause-pushes
returns-clause-pushes c = pushes-are-done
