use Rattle.typed_needs.proofs.laws.needs_make_typed_reads.Goals as goal
use Rattle.typed_needs.proofs.MemberReads.{reads-are-typed}

pub returns : goal.returns
returns g c = λ names env place. reads-are-typed g.T.Types.passes names env place
