use Rattle.std.specs.Prelude.{◌≡◌, flat_map, take}
use Rattle.plain_stores.specs.Changes.{kids}
use Rattle.plain_stores.proofs.made.kids_of.Given as goal

abbrev pub invariant-loop-f : goal.invariant-loop-f
invariant-loop-f l = l.all.items ≡ flat_map (kids l.fn.facts) (take l.f-index l.fn.level)
