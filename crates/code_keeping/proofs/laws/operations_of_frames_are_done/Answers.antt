use Rattle.code_keeping.proofs.Done.{variables-are-done}
use Rattle.code_keeping.proofs.Panicking.{panics-are-done}
use Rattle.code_keeping.proofs.laws.operations_of_frames_are_done.Goals as goal

pub returns-clause-variables : goal.returns-clause-variables
returns-clause-variables g c = variables-are-done g.N.Meaning.answers

pub returns-clause-panics : goal.returns-clause-panics
returns-clause-panics g c = panics-are-done g.N.Meaning.answers
