-- The code that is being made, as a draft holds it.
use Rattle.std.specs.Prelude.{map}
use Rattle.operations.specs.declared.operation.Operation.TheVariants.{Cast}
use Rattle.held_operations.specs.Operation.{operation_of, type_of}
use Rattle.stack_code.specs.Commands.{Command}
use Rattle.stack_code.specs.Commands as command
use Rattle.lower_model.specs.Making.{Making}
use Rattle.lower_expr.specs.declared.draft.Draft.{Draft}
use Rattle.lower_expr.specs.declared.draft.Step.{Step}
use Rattle.lower_expr.specs.declared.draft.Step.TheVariants as step

abbrev pub step_of : Step → Command
step_of (step.Do op) = command.Do (operation_of op)
step_of (step.Cast t) = command.Do (Cast (type_of t))
step_of (step.GoTo l) = command.GoTo l
step_of (step.GoToIfNot l) = command.GoToIfNot l
step_of (step.OpenTrap l) = command.OpenTrap l
step_of step.CloseTrap = command.CloseTrap

abbrev pub making_of : Draft → Making
making_of d = record { steps = map step_of d.steps.items; labels = d.labels.items; sound = d.sound }
