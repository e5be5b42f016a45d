use Rattle.std.proofs.Common.{◌∙◌, Some, ap, sym}
use Rattle.held_operations.specs.Operation.{operation_of}
use Rattle.stack_code.specs.Commands.{Do}
use Rattle.tested_types.specs.Asked.{type_tested}
use Rattle.tested_types.proofs.Retold.{asked-as}
use Rattle.tested_types.proofs.steps.operation.Goals as goal

pub returns-in-Test : goal.returns-in-Test
returns-in-Test c = asked-as (Do (operation_of c.args.op)) _ _ _ _ (ap (λ o. type_tested (operation_of o)) c.in-Test.is) c.note_tested.ensures

pub returns-in-Cast : goal.returns-in-Cast
returns-in-Cast c =
    asked-as (Do (operation_of c.args.op)) _ _ _ _ (ap (λ o. type_tested (operation_of o)) c.in-Cast.is ∙ ap (λ v. Some v.sem) (sym c.deref.ensures)) c.note.ensures
