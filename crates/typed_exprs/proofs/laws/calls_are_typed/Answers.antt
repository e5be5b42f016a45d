use Rattle.typed_exprs.proofs.laws.calls_are_typed.Goals as goal
use Rattle.typed_exprs.proofs.Calls.{all-calls-are-typed}

pub returns : goal.returns
returns g c = all-calls-are-typed g.T.Types.passes c.needs_are_calm.ensures c.needs_open_typed_calls.ensures c.needs_make_typed_library_calls.ensures c.needs_start_typed_values.ensures
