use Rattle.code_keeping.proofs.Done.{numbers-and-texts-are-done, tests-are-done}
use Rattle.code_keeping.proofs.laws.operations_on_values_are_done.Goals as goal

pub returns-clause-numbers_and_texts : goal.returns-clause-numbers_and_texts
returns-clause-numbers_and_texts g c = numbers-and-texts-are-done g.N.Meaning.answers

pub returns-clause-tests : goal.returns-clause-tests
returns-clause-tests g c = tests-are-done g.N.Meaning.answers
