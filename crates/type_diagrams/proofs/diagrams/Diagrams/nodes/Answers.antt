use Rattle.std.proofs.Common.{subst}
use Rattle.type_diagrams.specs.Whole.{HasOneNumberEach}
use Rattle.type_diagrams.proofs.OneNumber.{one_number}
use Rattle.type_diagrams.proofs.diagrams.Diagrams.nodes.Goals as goal

pub returns-clause-one : goal.returns-clause-one
returns-clause-one c = subst HasOneNumberEach c.self.view_is (one_number _ c.self.invariant)
