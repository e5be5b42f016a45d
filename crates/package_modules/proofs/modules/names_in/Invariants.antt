use Rattle.std.proofs.Common.{◌≡◌, map}
use Rattle.package_modules.proofs.modules.names_in.Given as goal

abbrev pub invariant-loop-name : goal.invariant-loop-name
invariant-loop-name l = l.names.items ≡ map (λ k. k.now) l.yielded
