use Rattle.std.proofs.Common.{◌≡◌, ◌≤◌, ℕ, map, take}
use Rattle.std.specs.Prelude.{filter}
use Rattle.package_making.specs.Making.{modules_from, numbered}
use Rattle.package_making.specs.inner.Ranked.{ranked}
use Rattle.package_making.proofs.Grouped.{is_at}
use Rattle.package_making.proofs.making.modules.Given as goal

-- the modules of the numbers so far are made, and of the files those of later ones are left
abbrev pub invariant-loop-place : goal.invariant-loop-place
invariant-loop-place l =
    let files = numbered l.numbers 0 l.fn.read.items in
    (l.made.items ≡ modules_from l.names (map (λ v. v.items) l.next) l.order files 0 (take l.place l.order))
    × ((k : ℕ) → l.place ≤ k → filter (is_at k) l.rest.items ≡ filter (is_at k) (ranked l.order files))
