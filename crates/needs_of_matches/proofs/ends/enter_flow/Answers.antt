use Rattle.std.proofs.Common.{map}
use Rattle.check_work.specs.Views.{state_of, unit_of}
use Rattle.check_work.proofs.Noting.{at-hand}
use Rattle.needs_of_matches.proofs.EndSteps.{entered-comes, known-below}
use Rattle.needs_of_matches.proofs.ends.enter_flow.Goals as goal

pub returns-clause-stands : goal.returns-clause-stands
returns-clause-stands c = λ env below h.
    known-below (state_of env c.args.work.now) (map unit_of c.args.work.now.around.items) (unit_of c.in_ok-unit.unit) (at-hand _ _ _ c.in_ok-unit.ensures) c.args.flow.now _
    c.in_ok-_was.ensures.entered below h

pub returns-clause-comes : goal.returns-clause-comes
returns-clause-comes c = λ env f by.
    entered-comes (state_of env c.args.work.now) (map unit_of c.args.work.now.around.items) (unit_of c.in_ok-unit.unit) (at-hand _ _ _ c.in_ok-unit.ensures) c.args.flow.now _
    c.in_ok-_was.ensures.entered f by
