use Rattle.code_keeping.proofs.Asks.{strict-operations-come, strict-operations-keep}
use Rattle.code_keeping.proofs.laws.strict_operations_keep.Goals as goal

pub returns-clause-rows : goal.returns-clause-rows
returns-clause-rows g c = strict-operations-keep g.N.Meaning.answers

pub returns-clause-comes : goal.returns-clause-comes
returns-clause-comes g c = strict-operations-come g.N.Meaning.answers
