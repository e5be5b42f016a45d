use Rattle.std.proofs.Common.{◌≡◌, ◌+◌, suc, sym, subst, arith, map, None, Some, rules}
use Rattle.graphs.specs.Cycles.{followers}
use Rattle.graphs.specs.inner.Searching.{IsNearest}
use Rattle.graphs.proofs.Greedy.{Greedy, ends-here, greedy-first, nearest-as, no-end, none-cyclic, onward, still-more}
use Rattle.graphs.proofs.cycles.first_cycle.Goals as goal

pub returns-in_default : goal.returns-in_default
returns-in_default c =
    let next = map (λ v. v.items) c.args.next.now in
    let away = c.in_ok-away.away.items in
    none-cyclic next c.args.first away (c.in_ok-away.ensures next c.requires.reversed)
    (nearest-as c.deref.result.now away c.followers-2.result.now (followers next c.args.first) None c.deref.ensures.value c.followers-2.ensures c.in_default.ensures)

pub loop-init : goal.loop-init
loop-init c d e =
    let next = map (λ v. v.items) c.args.next.now in
    let away = c.in_ok-away.away.items in
    let near = c.in-Some.near in
    let same : near.steps ≡ d = omega (arith, e) in
    subst (λ others. Greedy next away c.args.first others near.number d) (sym c.new-others.ensures.items)
    (subst (IsNearest away (followers next c.args.first) near.number) same
    (nearest-as c.deref.result.now away c.followers-2.result.now (followers next c.args.first) (Some near) c.deref.ensures.value c.followers-2.ensures c.in-Some.ensures))

pub loop-preserved : goal.loop-preserved
loop-preserved c d e =
    let next = map (λ v. v.items) c.args.next.now in
    let away = c.in_ok-away.away.items in
    let number = c.loop.number in
    let near = c.in-Some-nearest.near in
    subst (λ others. Greedy next away c.args.first others near.number d) (sym c.in_ok-push.ensures.items)
    (onward next c.args.first away c.loop.others.items number d near (c.in_ok-away.ensures next c.requires.reversed) (c.loop.invariant (suc d) (omega (arith, e)))
    (nearest-as c.deref-in-loop.result.now away c.followers-in-loop.result.now (followers next number) (Some near) c.deref-in-loop.ensures.value c.followers-in-loop.ensures c.in-Some-nearest.ensures))

pub returns-in_default-nearest : goal.returns-in_default-nearest
returns-in_default-nearest c =
    let next = map (λ v. v.items) c.args.next.now in
    let away = c.in_ok-away.away.items in
    let number = c.loop.number in
    let more = still-more c.loop.counter c.in-Some.near.steps c.loop-test.true in
    absurd (no-end next c.args.first away c.loop.others.items number more.0 (c.in_ok-away.ensures next c.requires.reversed) (c.loop.invariant (suc more.0) more.1)
    (nearest-as c.deref-in-loop.result.now away c.followers-in-loop.result.now (followers next number) None c.deref-in-loop.ensures.value c.followers-in-loop.ensures c.in_default-nearest.ensures))

pub returns : goal.returns
returns c =
    let next = map (λ v. v.items) c.args.next.now in
    let end : 0 + c.loop.counter ≡ c.in-Some.near.steps = let most = c.loop.auto.counter-end in let least = c.loop-test.false in omega (arith, most, least) in
    greedy-first next c.args.first c.loop.number c.in_ok-away.away.items c.loop.others.items (c.in_ok-away.ensures next c.requires.reversed) (c.loop.invariant 0 end)

pub returns-then-is_empty : goal.returns-then-is_empty
returns-then-is_empty c = ends-here (map (λ v. v.items) c.args.next.now) c.args.first c.followers.result.now c.followers.ensures (search rules)
