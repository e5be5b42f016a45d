use Rattle.check_work.specs.Views.{match_of, state_of}
use Rattle.needs_of_matches.proofs.EndSteps.{ended-comes}
use Rattle.needs_of_matches.proofs.ends.end_match.Goals as goal

pub returns-clause-stands : goal.returns-clause-stands
returns-clause-stands g c = c.in_ok-add_match.ensures.stands (g.T.Types.atoms c.args.types.now) c.in_ok-know_behind.ensures.stands

pub returns-clause-comes : goal.returns-clause-comes
returns-clause-comes g c =
    let env = g.T.Types.atoms c.args.types.now in
    ended-comes (state_of env c.args.work.now) _ _ (match_of c.args.held) c.args.left c.args.at c.in_ok-know_behind.ensures.comes (c.in_ok-add_match.ensures.comes env)
