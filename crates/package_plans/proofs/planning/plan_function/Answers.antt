use Rattle.checks.proofs.Steps.{ran_out}
use Rattle.package_plans.specs.Planned.{function_plans}
use Rattle.package_plans.proofs.planning.plan_function.Goals as goal

pub returns-in-Ok-false-clause-comes : goal.returns-in-Ok-false-clause-comes
returns-in-Ok-false-clause-comes g c = ran_out (function_plans g.T.Types.passes c.args.f.now) _ _
