use Rattle.std.proofs.Common.{◌≡◌, ◌++◌, ◌∷◌, ◌+◌, ◌<◌, [], length, rules, subst, sym, refl, arith}
use Rattle.std.proofs.lemmas.Option.{slice_get_read}
use Rattle.value_model.specs.Heap.{Items}
use Rattle.plain_equality.proofs.Sides.{IsPaired, IsPlaceDone, places-all, places-more}
use Rattle.plain_equality.proofs.members.item_pairs.Goals as goal

pub loop-i-preserved : goal.loop-i-preserved
loop-i-preserved c =
    let vs = c.args.first.now in
    let ws = c.args.second.now in
    let i = c.loop-i.i in
    let v = c.index-first-i.result in
    let w = c.index-second-i.result in
    let same : length vs ≡ length ws = search rules in
    let lt : i < length vs = search rules in
    let below : i < length ws = omega (arith, lt, same) in
    let new : c.push.new.self.items ≡ c.loop-i.pairs.items ++ (v, w) ∷ [] = search rules in
    subst (IsPaired (IsPlaceDone (i + 1)) (Items vs) (Items ws)) (sym new)
    (places-more vs ws i v w c.loop-i.pairs.items (slice_get_read vs (length vs) i v refl lt c.index-first-i.is) (slice_get_read ws (length ws) i w refl below c.index-second-i.is) c.loop-i.invariant)

pub returns : goal.returns
returns c =
    let same : length c.args.first.now ≡ length c.args.second.now = search rules in
    places-all c.args.first.now c.args.second.now c.loop-i.i c.loop-i.pairs.items same c.loop-i-test.false c.loop-i.invariant
