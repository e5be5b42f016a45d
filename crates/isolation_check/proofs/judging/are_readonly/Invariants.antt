use Rattle.std.proofs.Common.{◌≡◌, List, Result, drop}
use Rattle.std.specs.Prelude.{Bool}
use Rattle.bal_base.specs.declared.fault.Fault.{Fault}
use Rattle.bal_base.specs.declared.stop.Stop.{Stop}
use Rattle.bal_base.specs.declared.text.Name.{Name}
use Rattle.isolation_check.specs.inner.Judging.{Judged}
use Rattle.isolation_check.specs.Walk.{are_readonly}
use Rattle.isolation_check.proofs.judging.are_readonly.Given as goal

-- what is found of the rest is found of all
abbrev pub invariant-loop-c : goal.invariant-loop-c
invariant-loop-c g l = (g.T.Types.atoms l.types ≡ g.T.Types.atoms l.fn.types)
    × ((names : List Name) (r : Result Bool (Stop Fault)) → Judged (are_readonly g.T.Types.passes (drop l.c-index l.captured) names l.at) names l.at (g.T.Types.atoms l.fn.types) r
    → Judged (are_readonly g.T.Types.passes l.captured names l.at) names l.at (g.T.Types.atoms l.fn.types) r)
