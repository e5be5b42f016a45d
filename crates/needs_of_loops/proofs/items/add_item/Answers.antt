use Rattle.std.proofs.Common.{length, subst, sym}
use Rattle.flow_narrowing.specs.Flows.{VariableBelow}
use Rattle.check_words.specs.State.{with_variable}
use Rattle.check_words.specs.Words.{changes_flow}
use Rattle.check_words.proofs.Coming.{next}
use Rattle.check_words.proofs.Standing.{shared-below}
use Rattle.needs_of_loops.proofs.Answered.{by-same}
use Rattle.needs_of_loops.proofs.items.add_item.Goals as goal

pub returns-clause-stands : goal.returns-clause-stands
returns-clause-stands c = λ env h.
    let below = c.in_ok-declared.ensures.below env h in
    c.in_ok-declare.ensures.stands env (subst (VariableBelow (length env)) (sym c.item.ensures) (record { declared = below; narrowed = tt }))
    (c.in_ok-slot.ensures.stands env (shared-below (length env) c.in_ok-declared.declared c.in_ok-kept.kept c.in_ok-kept.ensures below) (c.in_ok-declared.ensures.stands env h))

pub returns-clause-comes : goal.returns-clause-comes
returns-clause-comes c = λ env.
    next _ _ _ _ _ c.in_ok-declared.declared _ (c.in_ok-declared.ensures.comes env)
    (next _ _ _ _ _ c.in_ok-slot.slot _ (c.in_ok-slot.ensures.comes env c.in_ok-declared.declared c.in_ok-kept.ensures)
    (by-same (λ v. changes_flow (with_variable v)) _ _ _ _ _ c.item.ensures (c.in_ok-declare.ensures.comes env)))
