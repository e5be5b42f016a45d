use Rattle.typed_needs.proofs.laws.needs_make_typed_messages.Goals as goal
use Rattle.typed_needs.proofs.Messages.{messages-are-typed}

pub returns : goal.returns
returns g c = λ names env place. messages-are-typed g.T.Types.passes names env place
