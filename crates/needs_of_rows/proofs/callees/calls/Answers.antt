use Rattle.std.specs.Option.{option_copied}
use Rattle.stack_code.specs.declared.code.Unit.{Unit as CodeUnit}
use Rattle.code_needs.specs.Combining.{◌&◌, as_many, of_some}
use Rattle.code_needs.specs.RowNeeds.{below_each, has_all}
use Rattle.needs_of_rows.proofs.Finding.{found-then}
use Rattle.needs_of_rows.proofs.callees.calls.Goals as goal

pub returns : goal.returns
returns c =
    found-then (as_many c.args.operands.now c.args.count) (of_some (option_copied c.args.unit) (λ (u : CodeUnit). below_each c.args.operands.now u.params & has_all (option_copied c.args.given) u.result)) _ _ _ c.as_many.ensures c.called.ensures
