use Rattle.std.proofs.Common.{◌≤◌, below_more, map, subst, sym}
use Rattle.std.specs.Prelude.{option_map}
use Rattle.std.proofs.lemmas.List.{length-map}
use Rattle.package_imports.specs.inner.Begun.{IsCycleBegun}
use Rattle.package_imports.proofs.Cyclic.{found-least, none-at-all}
use Rattle.package_imports.proofs.cycles.least_cycle.Goals as goal

pub returns-in-Some : goal.returns-in-Some
returns-in-Some c =
    let next = map (λ v. v.items) c.args.next.now in
    let first = c.loop-first.first in
    found-least next first c.in-Some.cycle.items (subst (λ found. IsCycleBegun next first (option_map (λ v. v.items) found)) c.in-Some.is c.in_ok-found.ensures) c.loop-first.invariant

pub loop-first-preserved : goal.loop-first-preserved
loop-first-preserved c =
    let next = map (λ v. v.items) c.args.next.now in
    let first = c.loop-first.first in
    below_more _ _ c.loop-first.invariant (subst (λ found. IsCycleBegun next first (option_map (λ v. v.items) found)) c.in-None.is c.in_ok-found.ensures)

pub returns : goal.returns
returns c =
    let next = map (λ v. v.items) c.args.next.now in
    none-at-all next c.loop-first.first (subst (λ n. n ≤ c.loop-first.first) (sym (length-map c.args.next.now (λ v. v.items))) c.loop-first-test.false) c.loop-first.invariant
