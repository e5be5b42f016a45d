use Rattle.std.proofs.Common.{map, take}
use Rattle.std.specs.Prelude.{Any}
use Rattle.lower_expr.specs.Drafts.{step_of}
use Rattle.tested_types.specs.Asked.{Asks, Notes}
use Rattle.tested_types.proofs.steps.steps.Given as goal

abbrev pub invariant-loop-s : goal.invariant-loop-s
invariant-loop-s l = Notes (λ t. Any (λ c. Asks c t) (map step_of (take l.s-index l.steps))) l.fn.types.items l.types.items
