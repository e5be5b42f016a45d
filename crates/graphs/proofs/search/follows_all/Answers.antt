use Rattle.std.proofs.Common.{◌<◌, get_or, length, map, arith}
use Rattle.std.proofs.lemmas.List.{get_or_default}
use Rattle.graphs.proofs.Turning.{edge-more, no-edges}
use Rattle.graphs.proofs.search.follows_all.Goals as goal

pub loop-follower-init : goal.loop-follower-init
loop-follower-init c = no-edges c.args.number (map (λ v. v.items) c.args.back.now.items)

pub loop-follower-preserved : goal.loop-follower-preserved
loop-follower-preserved c =
    let i = c.loop-follower.follower-index in
    let lt : i < length c.args.list.now = grind (arith, c.loop-follower-test.true) in
    let x = get_or c.args.list.now i 0 in
    edge-more c.args.number c.args.list.now i x (map (λ v. v.items) c.args.back.now.items) (map (λ v. v.items) c.loop-follower.back.items) (map (λ v. v.items) c.follows.new.back.items)
    lt (get_or_default c.args.list.now i 0 x lt) c.in_ok-follows.ensures c.loop-follower.invariant
