use Rattle.typed_needs.proofs.laws.needs_make_typed_function_calls.Goals as goal
use Rattle.typed_needs.proofs.FunctionCalls.{function-calls-are-typed}

pub returns : goal.returns
returns g c = λ names env place. function-calls-are-typed g.T.Types.passes names env place
