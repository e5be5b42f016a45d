use Rattle.std.proofs.Common.{◌≡◌}
use Rattle.std.specs.List.{filter_map}
use Rattle.std.specs.Prelude.{option_map}
use Rattle.empty_product.proofs.mappings.members.Given as goal

abbrev pub invariant-loop-key : goal.invariant-loop-key
invariant-loop-key l = l.members.items ≡ filter_map (λ p. option_map (λ x. (p.0, x)) p.1) l.yielded
