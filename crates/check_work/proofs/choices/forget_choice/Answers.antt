use Rattle.std.proofs.Common.{map}
use Rattle.check_words.proofs.Entering.{forgets-stand}
use Rattle.check_words.proofs.Flowing.{forgets-come}
use Rattle.check_work.specs.Views.{choice_of, state_of, unit_of}
use Rattle.check_work.proofs.Noting.{at-hand, mapped-last}
use Rattle.check_work.proofs.choices.forget_choice.Goals as goal

pub returns-clause-stands : goal.returns-clause-stands
returns-clause-stands c = λ env h.
    forgets-stand (state_of env c.args.work.now) h (map unit_of c.args.work.now.around.items) (unit_of c.in_ok-unit.unit) (at-hand _ _ _ c.in_ok-unit.ensures) _
    (choice_of c.in_ok-choice.choice) _ (mapped-last choice_of _ _ _ c.in_ok-choice.ensures) c.in_ok-_after.ensures.entered

pub returns-clause-comes : goal.returns-clause-comes
returns-clause-comes c = λ env.
    forgets-come (state_of env c.args.work.now) (map unit_of c.args.work.now.around.items) (unit_of c.in_ok-unit.unit) (at-hand _ _ _ c.in_ok-unit.ensures) _
    (choice_of c.in_ok-choice.choice) _ (mapped-last choice_of _ _ _ c.in_ok-choice.ensures) c.in_ok-_after.ensures.entered
