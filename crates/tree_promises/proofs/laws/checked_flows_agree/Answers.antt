use Rattle.tree_promises.proofs.Joined.{joins-follow, tests-agree}
use Rattle.tree_promises.proofs.laws.checked_flows_agree.Goals as goal

pub returns-clause-joins : goal.returns-clause-joins
returns-clause-joins c = joins-follow

pub returns-clause-tests : goal.returns-clause-tests
returns-clause-tests c = tests-agree
