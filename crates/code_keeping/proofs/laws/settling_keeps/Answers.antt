use Rattle.code_keeping.proofs.Settling.{settling-keeps}
use Rattle.code_keeping.proofs.laws.settling_keeps.Goals as goal

pub returns : goal.returns
returns c = settling-keeps
