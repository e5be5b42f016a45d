use Rattle.std.proofs.Common.{map}
use Rattle.check_words.proofs.Entering.{switches-stand}
use Rattle.check_words.proofs.Flowing.{switches-come}
use Rattle.check_work.specs.Views.{choice_of, state_of, unit_of}
use Rattle.check_work.proofs.Noting.{at-hand, mapped-last}
use Rattle.needs_of_values.proofs.Split.{switch-same}
use Rattle.needs_of_values.proofs.conditions.switch.Goals as goal

pub returns-clause-stands : goal.returns-clause-stands
returns-clause-stands c = λ env h.
    switches-stand (state_of env c.args.work.now) h (map unit_of c.args.work.now.around.items) (unit_of c.in_ok-unit.unit) (at-hand _ _ _ c.in_ok-unit.ensures) _
    (choice_of c.in_ok-choice.choice) _ _ _ (mapped-last choice_of _ _ _ c.in_ok-choice.ensures)
    (switch-same (choice_of c.in_ok-choice.choice) _ _ c.in_ok-choice-2.ensures.before) c.in_ok-choice-2.ensures.entered (mapped-last choice_of _ _ _ c.in_ok-push.ensures.items)

pub returns-clause-comes : goal.returns-clause-comes
returns-clause-comes c = λ env.
    switches-come (state_of env c.args.work.now) (map unit_of c.args.work.now.around.items) (unit_of c.in_ok-unit.unit) (at-hand _ _ _ c.in_ok-unit.ensures) _
    (choice_of c.in_ok-choice.choice) _ _ _ (mapped-last choice_of _ _ _ c.in_ok-choice.ensures)
    (switch-same (choice_of c.in_ok-choice.choice) _ _ c.in_ok-choice-2.ensures.before) c.in_ok-choice-2.ensures.entered (mapped-last choice_of _ _ _ c.in_ok-push.ensures.items)
