use Rattle.std.proofs.Common.{◌≡◌, ◌++◌, ◌+◌, ◌<◌, ◌≤◌, get_or, length, true, rules, subst, sym}
use Rattle.value_model.specs.Heap.{Entries, entry_at}
use Rattle.plain_equality.specs.Pairs.{both_of, have_keys}
use Rattle.plain_equality.proofs.Sides.{IsKeyDone, IsPaired, keys-all, keys-more}
use Rattle.plain_equality.proofs.members.entry_pairs.Goals as goal

pub loop-e-preserved : goal.loop-e-preserved
loop-e-preserved c =
    let es = c.args.first.now in
    let ds = c.args.second.now in
    let e = c.e-item.result in
    let at = c.loop-e.e-index in
    let lt : at < length es = search rules in
    let is : e ≡ get_or es at e = search rules in
    let one : have_keys es ds ≡ true = search rules in
    let other : have_keys ds es ≡ true = search rules in
    let new : c.add_pair.new.pairs.items ≡ c.loop-e.pairs.items ++ both_of (entry_at es e.0) (entry_at ds e.0) = search rules in
    subst (IsPaired (IsKeyDone es (at + 1)) (Entries es) (Entries ds)) (sym new) (keys-more es ds one other at e c.loop-e.pairs.items lt is c.loop-e.invariant)

pub returns : goal.returns
returns c =
    let es = c.args.first.now in
    let ds = c.args.second.now in
    let all : length es ≤ c.loop-e.e-index = search rules in
    let one : have_keys es ds ≡ true = search rules in
    let other : have_keys ds es ≡ true = search rules in
    keys-all es ds one other c.loop-e.e-index c.loop-e.pairs.items all c.loop-e.invariant
