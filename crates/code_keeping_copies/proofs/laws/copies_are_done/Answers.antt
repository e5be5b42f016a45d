use Rattle.code_keeping_copies.proofs.Cloning.{clones-are-done}
use Rattle.code_keeping_copies.proofs.ReadOnly.{read-only-clones-are-done}
use Rattle.code_keeping_copies.proofs.laws.copies_are_done.Goals as goal

pub returns-clause-clones : goal.returns-clause-clones
returns-clause-clones c = clones-are-done

pub returns-clause-read_only : goal.returns-clause-read_only
returns-clause-read_only c = read-only-clones-are-done
