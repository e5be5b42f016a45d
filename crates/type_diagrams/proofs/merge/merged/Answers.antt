use Rattle.std.proofs.Common.{sym, subst}
use Rattle.type_diagrams.proofs.Merging.{Merging, merging-start, merging-end, merging-step, merging-made, turned}
use Rattle.type_diagrams.proofs.merge.merged.Goals as goal

pub loop-next-init : goal.loop-next-init
loop-next-init g c =
    subst (λ l. Merging g.P.Ord.cmp c.args.rule c.args.left.now c.args.right.now c.args.rule l c.args.left.now c.args.right.now) (sym c.new-places.ensures.items)
    (merging-start g.P.Ord.cmp g.met.P.Ord.total c.args.rule c.args.left.now c.args.right.now c.requires.left c.requires.right)

pub next_place-requires-clause-left : goal.next_place-requires-clause-left
next_place-requires-clause-left g c = c.loop-next.invariant.left_rises

pub next_place-requires-clause-right : goal.next_place-requires-clause-right
next_place-requires-clause-right g c = c.loop-next.invariant.right_rises

pub loop-next-preserved : goal.loop-next-preserved
loop-next-preserved g c =
    let cmp = g.P.Ord.cmp in
    let total = g.met.P.Ord.total in
    let n = c.in-Some.next in
    let now = c.loop-next.rule in
    let step = merging-step cmp total c.args.rule c.args.left.now c.args.right.now now c.loop-next.places.items c.loop-next.left.now c.loop-next.right.now c.loop-next.invariant n.place.now n.in_left n.in_right n.left.now n.right.now c.in-Some.ensures in
    merging-made cmp total c.args.rule c.args.left.now c.args.right.now now c.loop-next.places.items n.left.now n.right.now n.place.now (turned cmp total c.args.rule c.args.left.now c.args.right.now now n.in_left n.in_right) c.turned-turned.result c.turns_over.result c.behind-rule.result c.push_if.new.places.items c.turned-turned.ensures c.turns_over.ensures c.in_ok-push_if.ensures c.behind-rule.ensures step

pub returns : goal.returns
returns g c =
    merging-end g.P.Ord.cmp g.met.P.Ord.total c.args.rule c.args.left.now c.args.right.now c.loop-next.rule c.loop-next.places.items c.loop-next.left.now c.loop-next.right.now c.in_default.ensures.0 c.in_default.ensures.1 c.loop-next.invariant
