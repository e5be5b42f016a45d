use Rattle.code_keeping.proofs.OfKind.{operands-are-of-kinds}
use Rattle.code_keeping.proofs.laws.operands_are_of_kinds.Goals as goal

pub returns : goal.returns
returns c = operands-are-of-kinds
