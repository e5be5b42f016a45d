use Rattle.flow_needs.proofs.Changing.{all-changes-are-known}
use Rattle.flow_needs.proofs.laws.changes_are_known.Goals as goal

pub returns : goal.returns
returns c = all-changes-are-known
