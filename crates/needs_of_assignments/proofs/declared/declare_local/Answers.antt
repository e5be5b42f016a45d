use Rattle.std.proofs.Common.{length, subst, sym}
use Rattle.flow_narrowing.specs.Flows.{VariableBelow}
use Rattle.check_words.proofs.Coming.{next}
use Rattle.check_words.proofs.Standing.{shared-below, stands-beside}
use Rattle.needs_of_statements.proofs.Adding.{added-comes}
use Rattle.needs_of_statements.proofs.Answering.{declared-as}
use Rattle.needs_of_assignments.proofs.declared.declare_local.Goals as goal

pub returns-clause-stands : goal.returns-clause-stands
returns-clause-stands c = λ env h.
    let taken = c.in_ok-value.ensures.stands env h in
    let below = c.in_ok-ty.ensures.below env taken in
    stands-beside _
    (c.in_ok-declare.ensures.stands env (subst (VariableBelow (length env)) (sym c.local.ensures) (record { declared = below; narrowed = tt }))
    (c.in_ok-slot.ensures.stands env (shared-below (length env) c.in_ok-ty.ty c.in_ok-kept.kept c.in_ok-kept.ensures below) (c.in_ok-ty.ensures.stands env taken))) _ _ _ _

pub returns-clause-comes : goal.returns-clause-comes
returns-clause-comes c = λ env.
    next _ _ _ _ _ c.in_ok-value.value.value _ (c.in_ok-value.ensures.comes env)
    (next _ _ _ _ _ c.in_ok-ty.ty _ (c.in_ok-ty.ensures.comes env)
    (next _ _ _ _ _ c.in_ok-slot.slot _ (c.in_ok-slot.ensures.comes env c.in_ok-ty.ty c.in_ok-kept.ensures)
    (next _ _ _ _ _ tt _ (declared-as _ _ _ _ c.local.ensures (c.in_ok-declare.ensures.comes env))
    (added-comes _ _ _ c.set.result c.in_ok-add_stmt.ensures c.set.ensures))))
