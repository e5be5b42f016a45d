use Rattle.std.proofs.Common.{true}
use Rattle.operations.specs.declared.operation.Operation.TheVariants as operation
use Rattle.plain_run.proofs.Operands.{on-two}
use Rattle.plain_run.specs.Effects.{IsPerformed}
use Rattle.plain_equality.proofs.Telling.{equal-done}
use Rattle.plain_equality.proofs.equality.perform_equal.Goals as goal

pub returns-in_ok-equal-in-len2-clause-row : goal.returns-in_ok-equal-in-len2-clause-row
returns-in_ok-equal-in-len2-clause-row c = λ facts caller.
    on-two (λ vs. IsPerformed facts operation.Equal vs caller c.args.common.now c.args.common.now ⊥ c.told.result) c.args.operands.now c.a-item.result c.b-item.result c.in-len2.len_at_least c.in-len2.len_below c.a-item.is c.b-item.is
    (equal-done c.a-item.result c.b-item.result facts caller c.args.common.now c.in_ok-equal-in-len2.equal c.told.result c.in_ok-equal-in-len2.ensures c.told.ensures)
