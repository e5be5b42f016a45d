use Rattle.std.proofs.Common.{subst}
use Rattle.check_work.specs.Views.{state_of}
use Rattle.needs_of_members.specs.Fronts.{IsKey}
use Rattle.needs_of_members.proofs.Found.{field-comes, field-stands}
use Rattle.needs_of_members.proofs.storing.give_field.Goals as goal

pub returns-clause-stands : goal.returns-clause-stands
returns-clause-stands c = λ env h.
    let key = subst (λ text. IsKey text c.args.field.now.at c.in_ok-key.key) c.as_text.ensures c.in_ok-key.ensures in
    field-stands (state_of env c.args.work.now) c.args.field.now c.in_ok-key.key key _ c.in_ok-push.ensures.items _ c.in_ok-push-2.ensures.items h

pub returns-clause-comes : goal.returns-clause-comes
returns-clause-comes c = λ env.
    let key = subst (λ text. IsKey text c.args.field.now.at c.in_ok-key.key) c.as_text.ensures c.in_ok-key.ensures in
    field-comes (state_of env c.args.work.now) c.args.field.now c.in_ok-key.key key _ c.in_ok-push.ensures.items _ c.in_ok-push-2.ensures.items
