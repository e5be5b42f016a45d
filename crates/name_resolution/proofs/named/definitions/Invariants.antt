use Rattle.std.proofs.Common.{drop, Result}
use Rattle.bal_base.specs.declared.fault.Fault.{Fault}
use Rattle.bal_base.specs.declared.stop.Stop.{Stop}
use Rattle.checks.specs.Checks.{Comes}
use Rattle.descriptors.specs.Described.{Atoms}
use Rattle.name_resolution.specs.Faults.{definitions_named}
use Rattle.name_resolution.proofs.named.definitions.Given as goal

-- what is left comes to what the whole comes to
abbrev pub invariant-loop-number : goal.invariant-loop-number
invariant-loop-number l = (env : Atoms) (r : Result (Unit {0}) (Stop Fault)) → Comes (definitions_named l.outlines l.home l.number (drop l.number l.front)) env r env → Comes (definitions_named l.outlines l.home 0 l.front) env r env
