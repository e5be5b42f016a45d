use Rattle.std.proofs.Common.{◌≡◌, ◌++◌, map, take}
use Rattle.std.specs.List.{flat_map}
use Rattle.isolation_check.specs.Isolated.{function_promises, own_parts}
use Rattle.isolation_check.specs.Parts.{function_parts}
use Rattle.isolation_check.specs.inner.Views.{parts_of}
use Rattle.isolation_check.proofs.gathering.Gathered.functions.Given as goal

abbrev pub invariant-loop-f : goal.invariant-loop-f
invariant-loop-f l =
    (map (λ v. parts_of v.items) l.self.bodies.items ≡ map (λ v. parts_of v.items) l.fn.self.bodies.items ++ map (λ f. own_parts (function_parts f)) (take l.f-index l.fs))
    × (parts_of l.self.promises.items ≡ parts_of l.fn.self.promises.items ++ flat_map function_promises (take l.f-index l.fs))
