use Rattle.check_words.proofs.Standing.{stands-beside}
use Rattle.check_work.specs.Views.{state_of}
use Rattle.needs_of_members.proofs.Answered.{on-made}
use Rattle.needs_of_members.proofs.Updated.{field-updated}
use Rattle.needs_of_members.proofs.updates.update_field.Goals as goal

pub returns-clause-stands : goal.returns-clause-stands
returns-clause-stands c = λ env h. c.update_parts.ensures.stands env (stands-beside _ (c.in_ok-operator.ensures.stands env h) _ _ _ _)

pub returns-clause-comes : goal.returns-clause-comes
returns-clause-comes c = λ env.
    on-made _ _ c.update_parts.result
    (λ h. field-updated (state_of env c.args.work.now) _ _ c.args.op c.in_ok-operator.operator c.args.read c.args.at _ _ _ (c.in_ok-operator.ensures.comes env) c.in_ok-_access.ensures h _ c.field_form.ensures)
    (c.update_parts.ensures.comes env)
