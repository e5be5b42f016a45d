use Rattle.check_answers.proofs.Members.{self-twins}
use Rattle.check_answers.proofs.laws.types_stay_twins.Goals as goal

pub returns : goal.returns
returns c = self-twins
