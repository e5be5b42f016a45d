use Rattle.typed_calls.proofs.laws.needs_make_typed_library_calls.Goals as goal
use Rattle.typed_calls.proofs.LibraryCalls.{library-calls-are-typed}

pub returns : goal.returns
returns g c = λ names env place. library-calls-are-typed g.T.Types.passes names env place
