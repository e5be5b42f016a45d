use Rattle.std.proofs.Common.{length, subst, sym}
use Rattle.check_words.proofs.Standing.{stands-beside}
use Rattle.check_words.specs.Stands.{PartBelow}
use Rattle.check_work.specs.Views.{state_of}
use Rattle.check_work.proofs.Taking.{kept-three, three-last}
use Rattle.needs_of_members.proofs.Answered.{on-any, on-made}
use Rattle.needs_of_members.proofs.Updated.{first-below, others-stand, parts-come, second-below}
use Rattle.needs_of_members.proofs.updates.update_parts.Goals as goal

pub returns-clause-stands : goal.returns-clause-stands
returns-clause-stands c = λ env h. let s = state_of env c.args.work.now in
    let last = three-last _ _ _ _ _ _ _ c.in_ok-value.ensures c.in_ok-key.ensures c.in_ok-container.ensures in
    let kept = kept-three _ _ _ _ _ _ _ c.in_ok-value.ensures c.in_ok-key.ensures c.in_ok-container.ensures in
    on-any _ c.add_stmt.result
    (stands-beside _
    (c.in_ok-own.ensures.stands env (subst (PartBelow (length env)) (sym c.deref.ensures) (first-below s _ _ _ last _ kept h))
    (subst (PartBelow (length env)) (sym c.deref-2.ensures) (second-below s _ _ _ last _ kept h)) (others-stand s _ _ _ last _ kept h)) _ _ _ _)

pub returns-clause-comes : goal.returns-clause-comes
returns-clause-comes c = λ env.
    let last = three-last _ _ _ _ _ _ _ c.in_ok-value.ensures c.in_ok-key.ensures c.in_ok-container.ensures in
    let kept = kept-three _ _ _ _ _ _ _ c.in_ok-value.ensures c.in_ok-key.ensures c.in_ok-container.ensures in
    on-made _ _ c.add_stmt.result
    (λ more. parts-come (state_of env c.args.work.now) _ _ _ last _ kept _ _ _ c.deref.ensures c.deref-2.ensures c.in_ok-own.own c.args.how c.args.read c.member_target-target.result c.args.op
    c.args.at c.update_stmt.result _ (c.in_ok-own.ensures.comes env) c.member_target-target.ensures c.update_stmt.ensures more)
    c.add_stmt.ensures
