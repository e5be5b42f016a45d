use Rattle.held_operations.specs.declared.op.Op.TheVariants as op
use Rattle.plain_operations.specs.Parts.{IsUndecided}
use Rattle.plain_operations.proofs.Arms.{arm, arm-any, arm-asked}
use Rattle.plain_operations.proofs.performing.perform.Goals as goal

pub returns-in-Library-clause-row : goal.returns-in-Library-clause-row
returns-in-Library-clause-row c = arm-asked (IsUndecided c.args.facts.now c.args.operands.now c.args.common.now) c.args.facts.now c.args.caller.now c.args.operands.now c.args.common.now c.perform_library.new.common c.args.op (op.Library c.in-Library.call c.in-Library.atom c.in-Library.count) c.perform_library.result c.in-Library.is c.perform_library.ensures.row

pub returns-in-Equal-clause-row : goal.returns-in-Equal-clause-row
returns-in-Equal-clause-row c = arm-any (IsUndecided c.args.facts.now c.args.operands.now c.args.common.now) c.args.facts.now c.args.caller.now c.args.operands.now c.args.common.now c.args.common.now c.args.op op.Equal c.perform_equal.result c.in-Equal.is c.perform_equal.ensures.row

pub returns-in-Test-clause-row : goal.returns-in-Test-clause-row
returns-in-Test-clause-row c = arm-asked (IsUndecided c.args.facts.now c.args.operands.now c.args.common.now) c.args.facts.now c.args.caller.now c.args.operands.now c.args.common.now c.args.common.now c.args.op (op.Test c.in-Test.t) c.perform_test.result c.in-Test.is c.perform_test.ensures.row

pub returns-in-Cast-clause-row : goal.returns-in-Cast-clause-row
returns-in-Cast-clause-row c = arm-asked (IsUndecided c.args.facts.now c.args.operands.now c.args.common.now) c.args.facts.now c.args.caller.now c.args.operands.now c.args.common.now c.perform_cast.new.common c.args.op (op.Cast c.in-Cast.t) c.perform_cast.result c.in-Cast.is c.perform_cast.ensures.row

pub returns-in-SetItem-clause-row : goal.returns-in-SetItem-clause-row
returns-in-SetItem-clause-row c = arm-asked (IsUndecided c.args.facts.now c.args.operands.now c.args.common.now) c.args.facts.now c.args.caller.now c.args.operands.now c.args.common.now c.perform_set_item.new.common c.args.op op.SetItem c.perform_set_item.result c.in-SetItem.is c.perform_set_item.ensures.row

pub returns-in-SetKey-clause-row : goal.returns-in-SetKey-clause-row
returns-in-SetKey-clause-row c = arm-asked (IsUndecided c.args.facts.now c.args.operands.now c.args.common.now) c.args.facts.now c.args.caller.now c.args.operands.now c.args.common.now c.perform_set_key.new.common c.args.op op.SetKey c.perform_set_key.result c.in-SetKey.is c.perform_set_key.ensures.row
