use Rattle.std.proofs.Common.{◌≡◌, ◌≤◌, ◌++◌, ◌∷◌, [], arith, map, refl, rules, sym, ◌∙◌}
use Rattle.graphs.specs.inner.Walks.{left}
use Rattle.graphs.proofs.Marks.{most-left}
use Rattle.graphs.proofs.Walking.{all-closed, found-cycle, walked-as, went-on}
use Rattle.graphs.proofs.order.Walk.run.Goals as goal

pub loop-init : goal.loop-init
loop-init c = λ passed w. (w, let most = most-left c.args.self.now.marks.items in omega (arith, most))

pub returns-in_default : goal.returns-in_default
returns-in_default c = λ passed w.
    let walk = c.loop.self in
    let none : c.pop.new.self.items ≡ [] = search rules in
    let were : walk.steps.items ≡ [] = search rules in (
      walked-as (map (λ v. v.items) c.args.next.now) passed walk.marks.items walk.steps.items walk.order.items walk.marks.items c.pop.new.self.items walk.order.items (c.loop.invariant passed w).0
          refl (none ∙ sym were) refl,
      none,
    )

pub returns-then-not-branch : goal.returns-then-not-branch
returns-then-not-branch c = λ passed w.
    let walk = c.loop.self in
    let next = map (λ v. v.items) c.args.next.now in
    let popped = walked-as next passed walk.marks.items walk.steps.items walk.order.items walk.marks.items (c.pop.new.self.items ++ c.in-Some.step ∷ []) walk.order.items (c.loop.invariant passed w).0 refl (sym c.in-Some.ensures.items) refl in
    found-cycle next passed (record { marks = walk.marks; steps = c.pop.new.self; order = walk.order }) c.go_on.new.self c.in_ok-go_on.field-0 c.if-not-branch.true (c.in_ok-go_on.ensures next passed popped (sym c.followers.ensures))

pub loop-preserved : goal.loop-preserved
loop-preserved c = λ passed w.
    let walk = c.loop.self in
    let next = map (λ v. v.items) c.args.next.now in
    let before = c.loop.invariant passed w in
    let popped = walked-as next passed walk.marks.items walk.steps.items walk.order.items walk.marks.items (c.pop.new.self.items ++ c.in-Some.step ∷ []) walk.order.items before.0 refl (sym c.in-Some.ensures.items) refl in
    let went = went-on next passed (record { marks = walk.marks; steps = c.pop.new.self; order = walk.order }) c.go_on.new.self c.in_ok-go_on.field-0 c.if-not-branch.false (c.in_ok-go_on.ensures next passed popped (sym c.followers.ensures)) in
    let bound = before.1 in
    let less = went.1 in
    (went.0, omega (arith, bound, less))

pub returns : goal.returns
returns c = λ passed w.
    let walk = c.loop.self in
    let before = c.loop.invariant passed w in
    let bound = before.1 in
    let end : left walk.marks.items ≤ 0 = omega (arith, bound, c.loop-test.false, c.len-end.ensures) in
    (before.0, all-closed (map (λ v. v.items) c.args.next.now) passed walk.marks.items walk.steps.items walk.order.items before.0 end)
