use Rattle.std.proofs.Common.{◌≡◌, drop}
use Rattle.package_plans.specs.Planned.{function_plans}
use Rattle.package_plans.specs.inner.InTurn.{Leads}
use Rattle.package_plans.proofs.planning.plan_all.Given as goal

abbrev pub invariant-loop-f : goal.invariant-loop-f
invariant-loop-f g l =
    (g.T.Types.atoms l.types ≡ g.T.Types.atoms l.fn.types)
    × Leads (function_plans g.T.Types.passes) (g.T.Types.atoms l.fn.types) l.functions l.plans.items (drop l.f-index l.functions)
