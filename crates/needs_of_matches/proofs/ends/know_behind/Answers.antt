use Rattle.check_work.specs.Views.{match_of, state_of}
use Rattle.needs_of_matches.proofs.EndSteps.{behind-comes}
use Rattle.needs_of_matches.proofs.ends.know_behind.Goals as goal

pub returns-clause-stands : goal.returns-clause-stands
returns-clause-stands g c = c.in_ok-enter_flow.ensures.stands (g.T.Types.atoms c.args.types.now) c.in_ok-flow.ensures.below c.requires.stands

pub returns-clause-comes : goal.returns-clause-comes
returns-clause-comes g c =
    let env = g.T.Types.atoms c.args.types.now in
    behind-comes (state_of env c.args.work.now) _ (match_of c.args.held.now) c.args.left c.in_ok-flow.flow c.in_ok-flow.ensures.is (λ f by. c.in_ok-enter_flow.ensures.comes env f by)
