use Rattle.std.proofs.Common.{map, take}
use Rattle.lower_expr.specs.Drafts.{step_of}
use Rattle.package_units.specs.Held.{tree_of}
use Rattle.inherent_atoms.specs.Found.{Notes}
use Rattle.inherent_atoms.specs.Named.{steps_named}
use Rattle.inherent_atoms.proofs.steps.all_steps.Given as goal

abbrev pub invariant-loop-s : goal.invariant-loop-s
invariant-loop-s l = Notes (steps_named (map tree_of l.units) (map step_of (take l.s-index l.steps))) l.fn.found l.found
