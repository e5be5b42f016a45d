use Rattle.std.proofs.Common.{map}
use Rattle.check_words.proofs.Blocks.{opens-loop-comes}
use Rattle.check_words.proofs.Entering.{loop-stands}
use Rattle.check_work.specs.Views.{choice_of, state_of, unit_of}
use Rattle.check_work.proofs.Noting.{at-hand, mapped-last}
use Rattle.needs_of_statements.proofs.blocks.open_loop.Goals as goal

pub returns-clause-stands : goal.returns-clause-stands
returns-clause-stands c = λ env h.
    loop-stands (state_of env c.args.work.now) h (map unit_of c.args.work.now.around.items) (unit_of c.in_ok-unit.unit.now) (at-hand _ _ _ c.in_ok-unit.ensures)
    (choice_of (record { before = c.in_ok-before.before; other = c.in_ok-other.other; first = c.in_ok-first.first })) _
    (record { before = c.in_ok-before.ensures; other = c.in_ok-other.ensures; first = c.in_ok-first.ensures }) (mapped-last choice_of _ _ _ c.in_ok-push.ensures.items)

pub returns-clause-comes : goal.returns-clause-comes
returns-clause-comes c = λ env.
    opens-loop-comes (state_of env c.args.work.now) (map unit_of c.args.work.now.around.items) (unit_of c.in_ok-unit.unit.now) (at-hand _ _ _ c.in_ok-unit.ensures)
    (choice_of (record { before = c.in_ok-before.before; other = c.in_ok-other.other; first = c.in_ok-first.first })) _
    (record { before = c.in_ok-before.ensures; other = c.in_ok-other.ensures; first = c.in_ok-first.ensures }) (mapped-last choice_of _ _ _ c.in_ok-push.ensures.items)
