use Rattle.std.proofs.Common.{ap, sym}
use Rattle.lower_expr.specs.Drafts.{step_of}
use Rattle.tested_types.specs.Asked.{type_in}
use Rattle.tested_types.proofs.Retold.{asked-as, asks-as}
use Rattle.tested_types.proofs.steps.step.Goals as goal

pub returns-in-Do : goal.returns-in-Do
returns-in-Do c = asks-as _ (step_of c.args.step) _ _ _ (sym (ap step_of c.in-Do.is)) c.operation.ensures

pub returns-in-Cast : goal.returns-in-Cast
returns-in-Cast c = asked-as (step_of c.args.step) _ _ _ _ (ap (λ s. type_in (step_of s)) c.in-Cast.is) c.note_tested.ensures
