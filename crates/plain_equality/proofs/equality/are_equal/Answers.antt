use Rattle.std.proofs.Common.{◌≡◌, ◌<◌, ◌≤◌, true, false, length, get_or, rules, subst}
use Rattle.plain_run.specs.Held.{heap_of}
use Rattle.plain_equality.specs.Pairs.{AreMembersHeld, IsHeld}
use Rattle.plain_equality.proofs.Working.{unlike-ends, working-ends, working-more}
use Rattle.plain_equality.proofs.equality.are_equal.Goals as goal

pub returns-then-not-branch : goal.returns-then-not-branch
returns-then-not-branch c =
    let h = heap_of c.args.heap.now in
    let old = c.new-held.result.items in
    let new = c.hold.new.held.items in
    let no : c.in_ok-hold.field-0 ≡ false = search rules in
    unlike-ends h c.args.v.now c.args.w.now old new (subst (IsHeld h c.args.v.now c.args.w.now old new) no c.in_ok-hold.ensures)

pub loop-next-preserved : goal.loop-next-preserved
loop-next-preserved c =
    let h = heap_of c.args.heap.now in
    let held = c.loop-next.held.items in
    let new = c.hold_members.new.held.items in
    let next = c.loop-next.next in
    let p = c.index.result.now in
    let lt : next < length held = search rules in
    let is : p ≡ get_or held next p = search rules in
    let yes : c.in_ok-hold_members.field-0 ≡ true = search rules in
    working-more h c.args.v.now c.args.w.now held next c.loop-next.invariant p lt is new (subst (AreMembersHeld h p.0 p.1 held new) yes c.in_ok-hold_members.ensures)

pub returns : goal.returns
returns c =
    let le : length c.loop-next.held.items ≤ c.loop-next.next = search rules in
    working-ends (heap_of c.args.heap.now) c.args.v.now c.args.w.now c.loop-next.held.items c.loop-next.next le c.loop-next.invariant
