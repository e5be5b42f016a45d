use Rattle.code_keeping_calls.proofs.Calls.{values-are-called, values-are-started}
use Rattle.code_keeping_calls.proofs.laws.values_are_called.Goals as goal

pub returns-clause-calls : goal.returns-clause-calls
returns-clause-calls g c = values-are-called g.N.Meaning.answers

pub returns-clause-starts : goal.returns-clause-starts
returns-clause-starts g c = values-are-started g.N.Meaning.answers
