use Rattle.std.proofs.Common.{◌≡◌, map}
use Rattle.package_modules.proofs.modules.folders_of.Given as goal

abbrev pub invariant-loop-found : goal.invariant-loop-found
invariant-loop-found l = l.folders.items ≡ map (λ f. f.«module») (map (λ f. f.now) l.yielded)
