use Rattle.flow_needs.proofs.laws.variables_are_known.Goals as goal
use Rattle.flow_needs.proofs.Known.{all-variables-are-known}

pub returns : goal.returns
returns c = all-variables-are-known
