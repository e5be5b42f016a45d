use Rattle.std.proofs.Common.{map}
use Rattle.check_words.proofs.Stepping.{declared-comes, declared-stands}
use Rattle.check_work.specs.Views.{state_of, unit_of}
use Rattle.check_work.proofs.Noting.{at-hand}
use Rattle.check_work.proofs.steps.declare.Goals as goal

pub returns-clause-stands : goal.returns-clause-stands
returns-clause-stands c = λ env below h.
    declared-stands (state_of env c.args.work.now) (map unit_of c.args.work.now.around.items) (unit_of c.in_ok-unit.unit) (at-hand _ _ _ c.in_ok-unit.ensures) c.args.v _ c.in_ok-declare.ensures below h

pub returns-clause-comes : goal.returns-clause-comes
returns-clause-comes c = λ env.
    declared-comes (state_of env c.args.work.now) (map unit_of c.args.work.now.around.items) (unit_of c.in_ok-unit.unit) (at-hand _ _ _ c.in_ok-unit.ensures) c.args.v _ c.in_ok-declare.ensures
