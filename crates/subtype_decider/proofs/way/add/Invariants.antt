use Rattle.std.proofs.Common.{◌≡◌, ◌++◌, map}
use Rattle.subtype_decider.specs.Paths.{way}
use Rattle.subtype_decider.proofs.way.add.Given as goal

abbrev pub invariant-loop-path : goal.invariant-loop-path
invariant-loop-path l = l.ways.items ≡ l.initial.ways.items ++ map (way l.kind) l.yielded
