use Rattle.code_keeping.proofs.Calling.{calls-keep}
use Rattle.code_keeping.proofs.Returning.{returns-keep}
use Rattle.code_keeping.proofs.laws.calls_and_returns_keep.Goals as goal

pub returns-clause-calls : goal.returns-clause-calls
returns-clause-calls g c = calls-keep g.N.Meaning.answers

pub returns-clause-returns : goal.returns-clause-returns
returns-clause-returns g c = returns-keep g.N.Meaning.answers
