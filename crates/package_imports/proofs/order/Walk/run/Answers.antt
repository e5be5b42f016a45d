use Rattle.std.proofs.Common.{◌≡◌, ◌≤◌, [], ap, arith, length, map, reverse, rules, subst, sym}
use Rattle.package_imports.specs.inner.Walking.{Resumes, to_go}
use Rattle.package_imports.proofs.Walking.{empty-of, ended}
use Rattle.package_imports.proofs.order.Walk.run.Goals as goal

pub loop-init : goal.loop-init
loop-init c = λ inside small. (λ order after r. r, omega (arith, small))

pub returns-in_default : goal.returns-in_default
returns-in_default c = λ inside small.
    let walk = c.loop.self in
    let were : walk.steps.items ≡ [] = search rules in
    (c.loop.invariant inside small).0 walk.left.items walk.come_to.items (ended (map (λ v. v.items) c.args.next.now) walk.come_to.items walk.steps.items walk.left.items were)

pub loop-preserved : goal.loop-preserved
loop-preserved c = λ inside small.
    let walk = c.loop.self in
    let graph = map (λ v. v.items) c.args.next.now in
    let before = c.loop.invariant inside small in
    let bound = before.1 in
    let stack = c.in-Some.ensures.items in
    let goes = c.in_ok-go_on.ensures graph inside (sym c.followers.ensures) in
    let less = goes.less in
    let same = ap (to_go graph walk.come_to.items) stack in (
      λ order after r. before.0 order after (subst (λ ss. Resumes graph walk.come_to.items (reverse ss) walk.left.items order after) (sym stack) (goes.leads order after r)),
      omega (arith, bound, less, same),
    )

pub returns : goal.returns
returns c = λ inside small.
    let walk = c.loop.self in
    let before = c.loop.invariant inside small in
    let bound = before.1 in
    let end : length walk.steps.items ≤ 0 = omega (arith, bound, c.loop-test.false) in
    before.0 walk.left.items walk.come_to.items (ended (map (λ v. v.items) c.args.next.now) walk.come_to.items walk.steps.items walk.left.items (empty-of walk.steps.items end))
