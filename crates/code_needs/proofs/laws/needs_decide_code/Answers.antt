use Rattle.code_needs.proofs.Codes.{code-decided}
use Rattle.code_needs.proofs.laws.needs_decide_code.Goals as goal

pub returns : goal.returns
returns c = code-decided
