use Rattle.std.proofs.Common.{List, ℤ, true, subst}
use Rattle.type_diagrams.specs.Sets.{answer_for, covers, set_of}
use Rattle.std.specs.Ordering.{int_cmp}
use Rattle.type_diagrams.specs.Written.{AddsInts}
use Rattle.type_diagrams.proofs.WrittenSets.{unstrung-HaveTogether}
use Rattle.type_diagrams.proofs.simple.SimpleSet.without_strings.Goals as goal

pub returns : goal.returns
returns c =
    let set = c.args.self.now in
    let yes = c.push_if-3.new.sets.items in
    unstrung-HaveTogether (set_of set) c.new-sets.result.items c.push_if.new.sets.items c.push_if-2.new.sets.items yes c.push_ranges.new.sets.items
    c.new-sets.ensures.items c.in_ok-push_if.ensures c.in_ok-push_if-2.ensures c.in_ok-push_if-3.ensures
    (subst (λ (flips : List ℤ). AddsInts (answer_for (covers true int_cmp) set.first flips) yes c.push_ranges.new.sets.items) c.deref.ensures.value c.in_ok-push_ranges.ensures)
