use Rattle.check_work.specs.Views.{state_of}
use Rattle.needs_of_structures.proofs.Implied.{implied-comes, implied-stands}
use Rattle.needs_of_structures.proofs.parts.give_implied.Goals as goal

pub returns-clause-stands : goal.returns-clause-stands
returns-clause-stands c = λ env h.
    implied-stands (state_of env c.args.work.now) c.args.value c.in_ok-ty.ty c.args.at c.implied.result _ c.implied.ensures c.in_ok-push.ensures.items h (c.in_ok-ty.ensures.below env)

pub returns-clause-comes : goal.returns-clause-comes
returns-clause-comes c = λ env.
    implied-comes (state_of env c.args.work.now) c.args.value c.in_ok-ty.ty c.args.at c.implied.result _ c.implied.ensures c.in_ok-push.ensures.items (c.in_ok-ty.ensures.is env)
