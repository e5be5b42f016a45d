use Rattle.checks.proofs.Steps.{stops}
use Rattle.check_words.proofs.Coming.{next}
use Rattle.check_work.specs.Views.{state_of}
use Rattle.needs_of_actions.proofs.awaiting.await_future.Goals as goal

pub expect_given-requires-clause-own : goal.expect_given-requires-clause-own
expect_given-requires-clause-own g c = c.requires.names.own

pub expect_given-requires-clause-stands : goal.expect_given-requires-clause-stands
expect_given-requires-clause-stands g c = c.in-Ok.ensures.stands (g.T.Types.atoms c.args.types.now) c.requires.names c.requires.stands

pub returns-in-Ok-clause-comes : goal.returns-in-Ok-clause-comes
returns-in-Ok-clause-comes g c = let env = g.T.Types.atoms c.args.types.now in
    next _ _ _ _ _ tt (state_of env c.give_named.new.work) (c.in-Ok.ensures.comes env) c.expect_given.ensures.comes

pub returns-in-Err-clause-comes : goal.returns-in-Err-clause-comes
returns-in-Err-clause-comes g c = let env = g.T.Types.atoms c.args.types.now in
    stops _ _ (state_of env c.args.work.now) (state_of env c.give_named.new.work) c.in-Err.stop (c.in-Err.ensures.comes env)
