use Rattle.std.proofs.Common.{take}
use Rattle.std.specs.Prelude.{All}
use Rattle.type_model.specs.SameType.{IsSameType}
use Rattle.tested_types.proofs.places.place.Given as goal

abbrev pub invariant-loop-place : goal.invariant-loop-place
invariant-loop-place l = All (λ s. ¬ (IsSameType l.t s)) (take l.place l.types)
