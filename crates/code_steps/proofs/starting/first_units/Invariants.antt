use Rattle.std.proofs.Common.{◌≡◌, map, take}
use Rattle.code_steps.specs.Begins.{alone, to_run_of}
use Rattle.code_steps.proofs.starting.first_units.Given as goal

abbrev pub invariant-loop-unit : goal.invariant-loop-unit
invariant-loop-unit l = map to_run_of l.units.items ≡ map alone (take l.unit-index l.initialisers)
