use Rattle.std.proofs.Common.{◌≡◌, ◌∙◌, Some, true, false, rules, sym, ap}
use Rattle.value_model.specs.Heap.{entry_at}
use Rattle.op_model.specs.Stores.{remove_entry}
use Rattle.plain_run.specs.Held.{structure_of}
use Rattle.plain_run.proofs.Given.{if-ok}
use Rattle.plain_run.proofs.KeyPlaces.{entry-no-position, entry-position, entry-there}
use Rattle.plain_removals.proofs.KeyPlaces.{removed-position}
use Rattle.plain_removals.proofs.Removing.{entries-frozen, entry-allowed, no-key}
use Rattle.plain_removals.proofs.keys.key_removal.Goals as goal

pub returns-in-None : goal.returns-in-None
returns-in-None c =
    no-key c.args.facts.now c.args.heap.now (structure_of c.args.s.now) c.args.entries.now c.args.key.now (entry-no-position c.args.key.now c.args.entries.now (sym c.in-None.ensures.place))

pub returns-then-not-s : goal.returns-then-not-s
returns-then-not-s c =
    let there = entry-there c.args.key.now c.args.entries.now c.in-Some.i (sym c.in-Some.ensures.place) in
    let frozen : c.args.s.now.mutable ≡ false = search rules in
    entries-frozen c.args.facts.now c.args.heap.now (structure_of c.args.s.now) c.args.entries.now c.args.key.now there.0 there.1 frozen

pub returns-in_ok-left-in-Some : goal.returns-in_ok-left-in-Some
returns-in_ok-left-in-Some c =
    let es = c.args.entries.now in
    let key = c.args.key.now in
    let i = c.in-Some.i in
    let e = c.index-entries-i.result in
    let at = sym c.in-Some.ensures.place in
    let there : entry_at es key ≡ Some c.share-given.result = entry-position key es i e at ∙ ap Some (sym c.share-given.ensures) in
    let left : c.in_ok-left-in-Some.left ≡ remove_entry es key = c.in_ok-left-in-Some.ensures ∙ sym (removed-position key es i e at) in
    let free : c.args.s.now.mutable ≡ true = search rules in
    if-ok _ _ c.allowed.result (λ removal. entry-allowed c.args.facts.now c.args.heap.now (structure_of c.args.s.now) es key c.in_ok-left-in-Some.left c.share-given.result removal there left free) c.allowed.ensures
