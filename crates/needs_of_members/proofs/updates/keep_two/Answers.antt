use Rattle.std.proofs.Common.{map, subst}
use Rattle.check_words.specs.Sharing.{SameShared}
use Rattle.check_work.specs.Views.{state_of, unit_of}
use Rattle.check_work.proofs.Noting.{at-hand}
use Rattle.needs_of_members.proofs.Updated.{two-kept, two-stand}
use Rattle.needs_of_members.proofs.updates.keep_two.Goals as goal

pub returns-clause-stands : goal.returns-clause-stands
returns-clause-stands c = λ env left right h.
    two-stand (state_of env c.args.work.now) (map unit_of c.args.work.now.around.items) (unit_of c.in_ok-unit.unit) _ _ (at-hand _ _ _ c.in_ok-unit.ensures)
    c.args.container.now c.args.key.now _ _ (subst (λ t. SameShared t c.in_ok-first.first) c.ty.ensures c.in_ok-first.ensures)
    (subst (λ t. SameShared t c.in_ok-second.second) c.ty-2.ensures c.in_ok-second.ensures) c.in_ok-own.ensures.unit c.in_ok-new_slot.ensures.unit h left right

pub returns-clause-comes : goal.returns-clause-comes
returns-clause-comes c = λ env.
    two-kept (state_of env c.args.work.now) (map unit_of c.args.work.now.around.items) (unit_of c.in_ok-unit.unit) _ _ (at-hand _ _ _ c.in_ok-unit.ensures)
    c.args.container.now c.args.key.now _ _ (subst (λ t. SameShared t c.in_ok-first.first) c.ty.ensures c.in_ok-first.ensures)
    (subst (λ t. SameShared t c.in_ok-second.second) c.ty-2.ensures c.in_ok-second.ensures) c.in_ok-own.ensures.unit c.in_ok-new_slot.ensures.unit _ c.in_ok-own.ensures.slot
