use Rattle.code_needs.proofs.Rows.{rows-decided}
use Rattle.code_needs.proofs.laws.needs_decide_rows.Goals as goal

pub returns : goal.returns
returns c = rows-decided
