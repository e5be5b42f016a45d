use Rattle.held_operations.specs.declared.op.Op.TheVariants as op
use Rattle.plain_operations.specs.Parts.{IsBeforeStructures, part_of}
use Rattle.plain_operations.proofs.Arms.{arm-any, arm-one}
use Rattle.plain_operations.proofs.on_structures.on_structures.Goals as goal

pub returns-in-MakeMapping-clause-row : goal.returns-in-MakeMapping-clause-row
returns-in-MakeMapping-clause-row c = arm-any (λ o. IsBeforeStructures (part_of o)) c.args.facts.now c.args.caller.now c.args.operands.now c.args.common.now c.perform_make_mapping.new.common c.args.op (op.MakeMapping c.in-MakeMapping.atom c.in-MakeMapping.immutable c.in-MakeMapping.count) c.perform_make_mapping.result c.in-MakeMapping.is c.perform_make_mapping.ensures.row

pub returns-in-MakeError-clause-row : goal.returns-in-MakeError-clause-row
returns-in-MakeError-clause-row c = arm-any (λ o. IsBeforeStructures (part_of o)) c.args.facts.now c.args.caller.now c.args.operands.now c.args.common.now c.perform_make_error.new.common c.args.op (op.MakeError c.in-MakeError.count) c.perform_make_error.result c.in-MakeError.is c.perform_make_error.ensures.row

pub returns-in-GetItem-clause-row : goal.returns-in-GetItem-clause-row
returns-in-GetItem-clause-row c = arm-any (λ o. IsBeforeStructures (part_of o)) c.args.facts.now c.args.caller.now c.args.operands.now c.args.common.now c.perform_get_item.new.common c.args.op op.GetItem c.perform_get_item.result c.in-GetItem.is c.perform_get_item.ensures.row

pub returns-in-GetKey-clause-row : goal.returns-in-GetKey-clause-row
returns-in-GetKey-clause-row c = arm-one (λ o. IsBeforeStructures (part_of o)) c.args.facts.now c.args.caller.now c.args.operands.now c.args.common.now c.args.common.now c.args.op op.GetKey c.perform_get_key.result c.in-GetKey.is (c.perform_get_key.ensures.row c.args.facts.now c.args.caller.now)

pub returns-in-GetChar-clause-row : goal.returns-in-GetChar-clause-row
returns-in-GetChar-clause-row c = arm-any (λ o. IsBeforeStructures (part_of o)) c.args.facts.now c.args.caller.now c.args.operands.now c.args.common.now c.perform_get_char.new.common c.args.op op.GetChar c.perform_get_char.result c.in-GetChar.is c.perform_get_char.ensures.row

pub returns-in-GetField-clause-row : goal.returns-in-GetField-clause-row
returns-in-GetField-clause-row c = arm-one (λ o. IsBeforeStructures (part_of o)) c.args.facts.now c.args.caller.now c.args.operands.now c.args.common.now c.args.common.now c.args.op (op.GetField c.in-GetField.name) c.perform_get_field.result c.in-GetField.is (c.perform_get_field.ensures.row c.args.facts.now c.args.caller.now)

pub returns-in-GetOptional-clause-row : goal.returns-in-GetOptional-clause-row
returns-in-GetOptional-clause-row c = arm-one (λ o. IsBeforeStructures (part_of o)) c.args.facts.now c.args.caller.now c.args.operands.now c.args.common.now c.args.common.now c.args.op (op.GetOptional c.in-GetOptional.name) c.perform_get_optional.result c.in-GetOptional.is (c.perform_get_optional.ensures.row c.args.facts.now c.args.caller.now)

pub returns-in-MakeList-clause-row : goal.returns-in-MakeList-clause-row
returns-in-MakeList-clause-row c = arm-any (λ o. IsBeforeStructures (part_of o)) c.args.facts.now c.args.caller.now c.args.operands.now c.args.common.now c.perform_make_list.new.common c.args.op (op.MakeList c.in-MakeList.atom c.in-MakeList.immutable c.in-MakeList.count) c.perform_make_list.result c.in-MakeList.is c.perform_make_list.ensures.row

pub returns-in-MakeFunction-clause-row : goal.returns-in-MakeFunction-clause-row
returns-in-MakeFunction-clause-row c = arm-any (λ o. IsBeforeStructures (part_of o)) c.args.facts.now c.args.caller.now c.args.operands.now c.args.common.now c.perform_make_function.new.common c.args.op (op.MakeFunction c.in-MakeFunction.unit c.in-MakeFunction.count) c.perform_make_function.result c.in-MakeFunction.is c.perform_make_function.ensures.row
