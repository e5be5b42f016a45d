use Rattle.std.proofs.Common.{All, Some, length, map, subst, sym}
use Rattle.flow_narrowing.specs.Flows.{IfShared}
use Rattle.type_model.specs.Defined.{TyBelow}
use Rattle.check_words.proofs.Coming.{next}
use Rattle.check_words.proofs.Flowing.{unit-now, want-put}
use Rattle.check_words.proofs.Standing.{also-has, shared-below, stands-wants, unit-has}
use Rattle.check_work.specs.Views.{state_of, unit_of}
use Rattle.check_work.proofs.Noting.{at-hand}
use Rattle.needs_of_values.proofs.wants.want_result.Goals as goal

pub returns-clause-stands : goal.returns-clause-stands
returns-clause-stands c = λ env h.
    let around = map unit_of c.args.work.now.around.items in
    let unit = c.in_ok-at_hand.field-0.now in
    stands-wants (state_of env c.args.work.now) h _
    (subst (All (IfShared (TyBelow (length env)))) (sym c.in_ok-push.ensures.items)
    (also-has (IfShared (TyBelow (length env))) _ (Some c.in_ok-t.t) h.wants
    (shared-below (length env) unit.result c.in_ok-t.t c.in_ok-t.ensures (unit-has (length env) _ around (unit_of unit) (at-hand _ _ _ c.in_ok-at_hand.ensures) h.units).result)))

pub returns-clause-comes : goal.returns-clause-comes
returns-clause-comes c = λ env.
    let s = state_of env c.args.work.now in
    let around = map unit_of c.args.work.now.around.items in
    let unit = c.in_ok-at_hand.field-0.now in
    next _ _ _ _ _ (unit_of unit) s (unit-now s around (unit_of unit) (at-hand _ _ _ c.in_ok-at_hand.ensures))
    (want-put s (Some unit.result) (Some c.in_ok-t.t) _ c.in_ok-t.ensures c.in_ok-push.ensures.items)
