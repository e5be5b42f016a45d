use Rattle.std.proofs.Common.{length}
use Rattle.check_words.proofs.Standing.{shared-below}
use Rattle.check_words.specs.State.{State}
use Rattle.check_work.specs.Views.{state_of, unit_of}
use Rattle.needs_of_units.proofs.Beginning.{bare-below}
use Rattle.needs_of_functions.proofs.Initialising.{new-stands, opens-new}
use Rattle.needs_of_functions.proofs.initials.open_new.Goals as goal

pub returns-clause-stands : goal.returns-clause-stands
returns-clause-stands c = λ env own h.
    let below = c.in_ok-gives.ensures.defined env own in
    let same = c.in_ok-handle.ensures in
    c.in_ok-open_unit.ensures.stands env
    (bare-below (length env) _ _ _ _ _ c.empty_unit-opened.ensures (shared-below (length env) c.in_ok-gives.gives c.in_ok-handle.handle same below))
    (new-stands c.args.kept (state_of env c.new_number.new.work) (unit_of c.empty_unit-unit.result) _ c.keep_initials.ensures (c.in_ok-number.ensures.stands env h)
    (bare-below (length env) _ _ _ _ _ c.empty_unit-unit.ensures below))

pub returns-clause-comes : goal.returns-clause-comes
returns-clause-comes c = λ env own none.
    opens-new c.args.kept (state_of env c.args.work.now) (state_of env c.new_number.new.work) _ c.in_ok-number.number c.in_ok-gives.gives c.in_ok-handle.handle
    (unit_of c.empty_unit-unit.result) (unit_of c.empty_unit-opened.result) _ none (c.in_ok-number.ensures.comes env) (c.in_ok-gives.ensures.is env own)
    c.empty_unit-unit.ensures c.empty_unit-opened.ensures c.in_ok-handle.ensures c.keep_initials.ensures (c.in_ok-open_unit.ensures.comes env)
