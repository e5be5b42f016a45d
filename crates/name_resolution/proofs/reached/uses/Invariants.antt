use Rattle.std.proofs.Common.{◌≡◌, map, take}
use Rattle.name_resolution.specs.Reached.{uses_of}
use Rattle.name_resolution.proofs.reached.uses.Given as goal

abbrev pub invariant-loop-d : goal.invariant-loop-d
invariant-loop-d l = map (λ v. v.items) l.all.items ≡ map (uses_of l.outlines) (take l.d-index l.outlines)
