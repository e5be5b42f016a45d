use Rattle.std.proofs.Common.{◌≡◌, map, not}
use Rattle.std.specs.Prelude.{filter}
use Rattle.package_making.proofs.Grouped.{is_at}
use Rattle.package_making.proofs.making.apart.Given as goal

abbrev pub invariant-loop-file : goal.invariant-loop-file
invariant-loop-file l =
    (l.here.items ≡ map (λ g. g.file) (filter (is_at l.place) l.yielded)) × (l.others.items ≡ filter (λ g. not (is_at l.place g)) l.yielded)
