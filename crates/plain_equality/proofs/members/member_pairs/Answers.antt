use Rattle.std.proofs.Common.{◌≡◌, rules, subst}
use Rattle.std.specs.Prelude.{IfOk, option_map}
use Rattle.value_model.specs.Heap.{Entries, Items}
use Rattle.plain_run.specs.Held.{members_of}
use Rattle.plain_equality.specs.Pairs.{AreMemberPairs}
use Rattle.plain_equality.proofs.members.member_pairs.Goals as goal

pub returns-in-Items-second : goal.returns-in-Items-second
returns-in-Items-second c =
    let first : Items c.as_slice.result.now ≡ members_of c.args.first.now = search rules in
    let second : Items c.as_slice-in-Items-second.result.now ≡ members_of c.args.second.now = search rules in
    subst (λ x. IfOk c.item_pairs.result (λ pairs. AreMemberPairs x (members_of c.args.second.now) (option_map (λ ps. ps.items) pairs))) first
    (subst (λ y. IfOk c.item_pairs.result (λ pairs. AreMemberPairs (Items c.as_slice.result.now) y (option_map (λ ps. ps.items) pairs))) second c.item_pairs.ensures)

pub returns-in-Entries-second-2 : goal.returns-in-Entries-second-2
returns-in-Entries-second-2 c =
    let first : Entries c.in-Entries.es ≡ members_of c.args.first.now = search rules in
    let second : Entries c.in-Entries-second-2.ds ≡ members_of c.args.second.now = search rules in
    subst (λ x. IfOk c.entry_pairs.result (λ pairs. AreMemberPairs x (members_of c.args.second.now) (option_map (λ ps. ps.items) pairs))) first
    (subst (λ y. IfOk c.entry_pairs.result (λ pairs. AreMemberPairs (Entries c.in-Entries.es) y (option_map (λ ps. ps.items) pairs))) second c.entry_pairs.ensures)
