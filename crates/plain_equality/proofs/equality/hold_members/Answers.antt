use Rattle.std.proofs.Common.{◌≡◌, rules, subst}
use Rattle.std.specs.Prelude.{IfOk, option_map}
use Rattle.plain_run.specs.Held.{heap_of}
use Rattle.plain_run.proofs.Given.{if-ok}
use Rattle.plain_equality.specs.Pairs.{AreHeld, AreMembersHeld, AreStructurePairs}
use Rattle.plain_equality.proofs.Working.{members-absent, members-held}
use Rattle.plain_equality.proofs.equality.hold_members.Goals as goal

pub returns-in-None : goal.returns-in-None
returns-in-None c =
    let h = heap_of c.args.heap.now in
    members-absent h c.args.n c.args.m c.args.held.now.items c.args.held.now.items
    (subst (λ o. AreStructurePairs h c.args.n c.args.m (option_map (λ ps. ps.items) o)) c.in-None.is c.in_ok-structure_pairs.ensures)

pub returns-in-Some : goal.returns-in-Some
returns-in-Some c =
    let h = heap_of c.args.heap.now in
    let old = c.args.held.now.items in
    let new = c.hold_all.new.held.items in
    let are = subst (λ o. AreStructurePairs h c.args.n c.args.m (option_map (λ ps. ps.items) o)) c.in-Some.is c.in_ok-structure_pairs.ensures in
    let same : c.as_slice.result.now ≡ c.in-Some.pairs.items = search rules in
    if-ok (AreHeld h c.in-Some.pairs.items old new) (AreMembersHeld h c.args.n c.args.m old new) c.hold_all.result
    (λ result held. members-held h c.args.n c.args.m old new c.in-Some.pairs.items are result held)
    (subst (λ l. IfOk c.hold_all.result (AreHeld h l old new)) same c.hold_all.ensures)
