use Rattle.std.proofs.Common.{◌≡◌, map}
use Rattle.module_loader.specs.inner.Sources.{source_of}
use Rattle.module_loader.proofs.sources.taken_down.Given as goal

abbrev pub invariant-loop-name : goal.invariant-loop-name
invariant-loop-name l = l.found.items ≡ map source_of (map (λ p. (p.0.now, p.1.now)) l.yielded)
