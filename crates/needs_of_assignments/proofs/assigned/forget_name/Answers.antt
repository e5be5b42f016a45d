use Rattle.std.proofs.Common.{None, length, map}
use Rattle.check_words.specs.State.{with_type}
use Rattle.check_words.proofs.Entering.{unit-stands}
use Rattle.check_words.proofs.Retyping.{retyped-below}
use Rattle.check_work.specs.Views.{flow_of, state_of, unit_of}
use Rattle.check_work.proofs.Noting.{at-hand}
use Rattle.needs_of_statements.proofs.Answering.{change-stands, known-comes}
use Rattle.needs_of_assignments.proofs.assigned.forget_name.Goals as goal

pub returns-clause-stands : goal.returns-clause-stands
returns-clause-stands c = λ env h.
    let s = state_of env c.args.work.now in
    let around = map unit_of c.args.work.now.around.items in
    let at = at-hand _ _ _ c.in_ok-unit.ensures in
    change-stands s around (unit_of c.in_ok-unit.unit) at (with_type c.args.name.now None) _ c.retype.ensures h
    (retyped-below (length env) c.args.name.now None tt (flow_of c.in_ok-unit.unit.here) (unit-stands s h around (unit_of c.in_ok-unit.unit) at).flow)

pub returns-clause-comes : goal.returns-clause-comes
returns-clause-comes c = λ env.
    known-comes (state_of env c.args.work.now) (map unit_of c.args.work.now.around.items) (unit_of c.in_ok-unit.unit) (at-hand _ _ _ c.in_ok-unit.ensures)
    (with_type c.args.name.now None) _ c.retype.ensures
