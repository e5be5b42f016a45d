use Rattle.std.proofs.Common.{map}
use Rattle.check_work.specs.Views.{choice_of, state_of, unit_of}
use Rattle.check_work.proofs.Noting.{at-hand, mapped-last}
use Rattle.needs_of_statements.proofs.Branching.{behind-same, while-ends, while-stands}
use Rattle.needs_of_statements.proofs.branches.leave_loop.Goals as goal

pub returns-clause-stands : goal.returns-clause-stands
returns-clause-stands c = λ env h.
    while-stands (state_of env c.args.work.now) (map unit_of c.args.work.now.around.items) (unit_of c.in_ok-unit.unit) (at-hand _ _ _ c.in_ok-unit.ensures) _
    (choice_of c.in_ok-choice.choice) (mapped-last choice_of _ _ _ c.in_ok-choice.ensures) h c.args.leaves _
    (behind-same c.args.leaves _ _ _ c.in_ok-_inside.ensures.entered c.go_on.ensures)

pub returns-clause-comes : goal.returns-clause-comes
returns-clause-comes c = λ env at r end h.
    while-ends (state_of env c.args.work.now) (map unit_of c.args.work.now.around.items) (unit_of c.in_ok-unit.unit) (at-hand _ _ _ c.in_ok-unit.ensures) _
    (choice_of c.in_ok-choice.choice) (mapped-last choice_of _ _ _ c.in_ok-choice.ensures) c.args.leaves _
    (behind-same c.args.leaves _ _ _ c.in_ok-_inside.ensures.entered c.go_on.ensures) at r end h
