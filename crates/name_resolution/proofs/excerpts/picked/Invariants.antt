use Rattle.std.proofs.Common.{◌≡◌}
use Rattle.name_resolution.specs.Reached.{is_reached}
use Rattle.name_resolution.proofs.Filtering.{kept}
use Rattle.name_resolution.proofs.excerpts.picked.Given as goal

abbrev pub invariant-loop-number : goal.invariant-loop-number
invariant-loop-number l = l.out.items ≡ kept (is_reached l.away) l.yielded
