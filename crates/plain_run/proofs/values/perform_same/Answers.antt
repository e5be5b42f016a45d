use Rattle.operations.specs.declared.operation.Operation.TheVariants as operation
use Rattle.plain_run.proofs.Comparing.{same-done}
use Rattle.plain_run.proofs.Operands.{on-two}
use Rattle.plain_run.specs.Effects.{IsPerformed}
use Rattle.plain_run.proofs.values.perform_same.Goals as goal

pub returns-in-len2-clause-row : goal.returns-in-len2-clause-row
returns-in-len2-clause-row c = λ facts caller.
    on-two (λ vs. IsPerformed facts operation.Same vs caller c.args.common.now c.args.common.now ⊥ c.told.result) c.args.operands.now c.a-item.result c.b-item.result c.in-len2.len_at_least c.in-len2.len_below c.a-item.is c.b-item.is
    (same-done c.a-item.result c.b-item.result facts caller c.args.common.now c.is_same.result c.told.result c.is_same.ensures c.told.ensures)
