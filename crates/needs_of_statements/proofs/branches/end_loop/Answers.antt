use Rattle.std.proofs.Common.{Ok}
use Rattle.needs_of_statements.proofs.branches.end_loop.Goals as goal

pub returns-clause-stands : goal.returns-clause-stands
returns-clause-stands c = λ env h. c.in_ok-build_while.ensures.stands env (c.in_ok-leave_loop.ensures.stands env h)

pub returns-clause-comes : goal.returns-clause-comes
returns-clause-comes c = λ env. c.in_ok-leave_loop.ensures.comes env c.args.at (Ok tt) _ (c.in_ok-build_while.ensures.comes env)
