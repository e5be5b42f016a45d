use Rattle.checks.proofs.Steps.{stops}
use Rattle.check_words.specs.Constructors.{takes_key}
use Rattle.check_words.specs.Members.{gives_key}
use Rattle.check_work.specs.Views.{state_of}
use Rattle.needs_of_structures.proofs.Made.{lifted-on, then-lifted}
use Rattle.needs_of_structures.proofs.keys.give_new_key.Goals as goal

pub returns-in-Ok-clause-stands : goal.returns-in-Ok-clause-stands
returns-in-Ok-clause-stands c = λ env h. lifted-on _ c.give_key.result c.lift.result c.lift.ensures (c.give_key.ensures.stands env (c.in-Ok.ensures.stands env h))

pub returns-in-Ok-clause-comes : goal.returns-in-Ok-clause-comes
returns-in-Ok-clause-comes c = λ env.
    then-lifted (takes_key c.args.key.now c.args.at) (λ u. gives_key c.args.key.now c.args.at) (state_of env c.args.work.now) tt _ _ c.give_key.result c.lift.result c.lift.ensures
    (c.in-Ok.ensures.comes env) (c.give_key.ensures.comes env)

pub returns-in-Err-clause-comes : goal.returns-in-Err-clause-comes
returns-in-Err-clause-comes c = λ env.
    stops (takes_key c.args.key.now c.args.at) (λ u. gives_key c.args.key.now c.args.at) (state_of env c.args.work.now) _ c.in-Err.stop (c.in-Err.ensures.comes env)
