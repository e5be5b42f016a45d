use Rattle.held_operations.specs.declared.op.Op.TheVariants as op
use Rattle.plain_operations.specs.Parts.{IsBeforeValues, part_of}
use Rattle.plain_operations.proofs.Arms.{arm, arm-any, arm-one}
use Rattle.plain_operations.proofs.on_values.on_values.Goals as goal

pub returns-in-Add-clause-row : goal.returns-in-Add-clause-row
returns-in-Add-clause-row c = arm-any (λ o. IsBeforeValues (part_of o)) c.args.facts.now c.args.caller.now c.args.operands.now c.args.common.now c.perform_ints.new.common c.args.op op.Add c.perform_ints.result c.in-Add.is c.perform_ints.ensures.row

pub returns-in-Subtract-clause-row : goal.returns-in-Subtract-clause-row
returns-in-Subtract-clause-row c = arm-any (λ o. IsBeforeValues (part_of o)) c.args.facts.now c.args.caller.now c.args.operands.now c.args.common.now c.perform_ints-in-Subtract.new.common c.args.op op.Subtract c.perform_ints-in-Subtract.result c.in-Subtract.is c.perform_ints-in-Subtract.ensures.row

pub returns-in-Multiply-clause-row : goal.returns-in-Multiply-clause-row
returns-in-Multiply-clause-row c = arm-any (λ o. IsBeforeValues (part_of o)) c.args.facts.now c.args.caller.now c.args.operands.now c.args.common.now c.perform_ints-in-Multiply.new.common c.args.op op.Multiply c.perform_ints-in-Multiply.result c.in-Multiply.is c.perform_ints-in-Multiply.ensures.row

pub returns-in-Divide-clause-row : goal.returns-in-Divide-clause-row
returns-in-Divide-clause-row c = arm-any (λ o. IsBeforeValues (part_of o)) c.args.facts.now c.args.caller.now c.args.operands.now c.args.common.now c.perform_ints-in-Divide.new.common c.args.op op.Divide c.perform_ints-in-Divide.result c.in-Divide.is c.perform_ints-in-Divide.ensures.row

pub returns-in-Remainder-clause-row : goal.returns-in-Remainder-clause-row
returns-in-Remainder-clause-row c = arm-any (λ o. IsBeforeValues (part_of o)) c.args.facts.now c.args.caller.now c.args.operands.now c.args.common.now c.perform_ints-in-Remainder.new.common c.args.op op.Remainder c.perform_ints-in-Remainder.result c.in-Remainder.is c.perform_ints-in-Remainder.ensures.row

pub returns-in-Negate-clause-row : goal.returns-in-Negate-clause-row
returns-in-Negate-clause-row c = arm-any (λ o. IsBeforeValues (part_of o)) c.args.facts.now c.args.caller.now c.args.operands.now c.args.common.now c.perform_negate.new.common c.args.op op.Negate c.perform_negate.result c.in-Negate.is c.perform_negate.ensures.row

pub returns-in-Not-clause-row : goal.returns-in-Not-clause-row
returns-in-Not-clause-row c = arm-one (λ o. IsBeforeValues (part_of o)) c.args.facts.now c.args.caller.now c.args.operands.now c.args.common.now c.args.common.now c.args.op op.Not c.perform_not.result c.in-Not.is (c.perform_not.ensures.row c.args.facts.now c.args.caller.now)

pub returns-in-Concat-clause-row : goal.returns-in-Concat-clause-row
returns-in-Concat-clause-row c = arm-any (λ o. IsBeforeValues (part_of o)) c.args.facts.now c.args.caller.now c.args.operands.now c.args.common.now c.perform_concat.new.common c.args.op op.Concat c.perform_concat.result c.in-Concat.is c.perform_concat.ensures.row

pub returns-in-Less-clause-row : goal.returns-in-Less-clause-row
returns-in-Less-clause-row c = arm-one (λ o. IsBeforeValues (part_of o)) c.args.facts.now c.args.caller.now c.args.operands.now c.args.common.now c.args.common.now c.args.op op.Less c.perform_compare.result c.in-Less.is (c.perform_compare.ensures.row c.args.facts.now c.args.caller.now)

pub returns-in-LessEqual-clause-row : goal.returns-in-LessEqual-clause-row
returns-in-LessEqual-clause-row c = arm-one (λ o. IsBeforeValues (part_of o)) c.args.facts.now c.args.caller.now c.args.operands.now c.args.common.now c.args.common.now c.args.op op.LessEqual c.perform_compare-in-LessEqual.result c.in-LessEqual.is (c.perform_compare-in-LessEqual.ensures.row c.args.facts.now c.args.caller.now)

pub returns-in-Same-clause-row : goal.returns-in-Same-clause-row
returns-in-Same-clause-row c = arm-one (λ o. IsBeforeValues (part_of o)) c.args.facts.now c.args.caller.now c.args.operands.now c.args.common.now c.args.common.now c.args.op op.Same c.perform_same.result c.in-Same.is (c.perform_same.ensures.row c.args.facts.now c.args.caller.now)
