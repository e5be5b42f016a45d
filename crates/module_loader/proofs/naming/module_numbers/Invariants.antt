use Rattle.std.proofs.Common.{◌≡◌, map, take}
use Rattle.module_loader.specs.Packages.{number_of}
use Rattle.module_loader.proofs.naming.module_numbers.Given as goal

abbrev pub invariant-loop-source : goal.invariant-loop-source
invariant-loop-source l = l.numbers.items ≡ map (λ s. number_of l.folders s.folder) (take l.source-index l.sources)
