use Rattle.typed_needs.proofs.laws.needs_make_typed_parts.Goals as goal
use Rattle.typed_needs.proofs.Conditions.{conditions-are-typed}
use Rattle.typed_needs.proofs.Opened.{comparison-is-typed, literal-is-typed, operator-is-typed, sum-is-typed, trap-is-typed}

pub returns-clause-literals : goal.returns-clause-literals
returns-clause-literals g c = λ names env place. literal-is-typed env g.T.Types.passes names place

pub returns-clause-operators : goal.returns-clause-operators
returns-clause-operators g c = λ names env place. operator-is-typed env g.T.Types.passes names place

pub returns-clause-traps : goal.returns-clause-traps
returns-clause-traps g c = λ names env place. trap-is-typed env g.T.Types.passes names place

pub returns-clause-sums : goal.returns-clause-sums
returns-clause-sums g c = λ names env place. sum-is-typed env g.T.Types.passes names place

pub returns-clause-comparisons : goal.returns-clause-comparisons
returns-clause-comparisons g c = λ names env place. comparison-is-typed env g.T.Types.passes names place

pub returns-clause-conditions : goal.returns-clause-conditions
returns-clause-conditions g c = λ names env place. conditions-are-typed env g.T.Types.passes names place
