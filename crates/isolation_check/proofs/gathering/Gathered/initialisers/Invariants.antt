use Rattle.std.proofs.Common.{◌≡◌, ◌++◌, take}
use Rattle.std.specs.List.{flat_map}
use Rattle.isolation_check.specs.Isolated.{initialiser_promises}
use Rattle.isolation_check.specs.inner.Views.{parts_of}
use Rattle.isolation_check.proofs.gathering.Gathered.initialisers.Given as goal

abbrev pub invariant-loop-i : goal.invariant-loop-i
invariant-loop-i l =
    (l.self.bodies ≡ l.fn.self.bodies)
    × (parts_of l.self.promises.items ≡ parts_of l.fn.self.promises.items ++ flat_map initialiser_promises (take l.i-index l.is))
