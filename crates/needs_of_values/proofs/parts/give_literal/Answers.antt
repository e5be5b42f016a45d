use Rattle.std.proofs.Common.{length}
use Rattle.check_work.specs.Views.{state_of}
use Rattle.check_work.proofs.Making.{strict-stands}
use Rattle.needs_of_values.proofs.Made.{literal-comes}
use Rattle.needs_of_values.proofs.parts.give_literal.Goals as goal

pub returns-clause-stands : goal.returns-clause-stands
returns-clause-stands c = λ env h. strict-stands _ _ _ _ (state_of env c.args.work.now) _ c.in_ok-gather.ensures h (c.in_ok-ty.ensures.below (length env))

pub returns-clause-comes : goal.returns-clause-comes
returns-clause-comes c = λ env.
    literal-comes (state_of env c.args.work.now) c.args.literal.now _ _ _ _ c.constant_of-value.ensures c.place_of_literal.ensures c.in_ok-gather.ensures (c.in_ok-ty.ensures.is env)
