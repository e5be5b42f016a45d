use Rattle.std.proofs.Common.{map}
use Rattle.check_words.specs.Calls.{unit_within}
use Rattle.check_words.proofs.Entering.{unit-stands}
use Rattle.check_work.specs.Views.{state_of, unit_of}
use Rattle.check_work.proofs.Noting.{at-hand}
use Rattle.needs_of_units.proofs.Beginning.{anonymous-begins}
use Rattle.needs_of_units.proofs.anonymous.begin_anonymous.Goals as goal

pub returns-clause-stands : goal.returns-clause-stands
returns-clause-stands c = λ env h.
    let mid = c.in_ok-number.ensures.stands env h in
    c.in_ok-open_unit.ensures.stands env
    (c.in_ok-unit.ensures.below _ (unit-stands _ mid _ (unit_of c.in_ok-at_hand.field-0.now) (at-hand _ _ _ c.in_ok-at_hand.ensures)).result) mid

pub returns-clause-comes : goal.returns-clause-comes
returns-clause-comes c = λ env.
    anonymous-begins (state_of env c.args.work.now) _ _ _ (unit_of c.in_ok-at_hand.field-0.now) c.in_ok-number.number c.in_ok-number.ensures.units (at-hand _ _ _ c.in_ok-at_hand.ensures)
    (c.in_ok-number.ensures.comes env) (c.in_ok-open_unit.ensures.comes env _ c.in_ok-unit.ensures.is)
