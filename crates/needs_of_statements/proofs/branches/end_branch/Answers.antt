use Rattle.std.proofs.Common.{Ok}
use Rattle.needs_of_statements.proofs.branches.end_branch.Goals as goal

pub returns-clause-stands : goal.returns-clause-stands
returns-clause-stands g c = c.in_ok-build_if.ensures.stands (g.T.Types.atoms c.args.types.now) c.in_ok-join_ways.ensures.stands

pub returns-clause-comes : goal.returns-clause-comes
returns-clause-comes g c = c.in_ok-join_ways.ensures.comes c.args.at (Ok tt) _ (c.in_ok-build_if.ensures.comes (g.T.Types.atoms c.args.types.now))
