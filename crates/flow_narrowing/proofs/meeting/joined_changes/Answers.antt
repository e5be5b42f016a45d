use Rattle.std.proofs.Common.{◌≡◌, ◌≤◌, true, All, Some, length, slice_get, refl, rules, subst}
use Rattle.std.proofs.lemmas.List.Elements.{All-nil}
use Rattle.std.proofs.lemmas.Option.{slice_get_read}
use Rattle.flow_narrowing.specs.Changes.{is_told}
use Rattle.flow_narrowing.specs.Meetings.{ChangeBelow}
use Rattle.flow_narrowing.proofs.MetWays.{covers-all, covers-kept, one-met}
use Rattle.flow_narrowing.proofs.meeting.joined_changes.Goals as goal

pub loop-c-preserved : goal.loop-c-preserved
loop-c-preserved g c =
    let first = c.args.ends.now.first.changes.items in
    let at : slice_get first c.loop-c.c-index ≡ Some c.c-item.result = slice_get_read _ (length first) _ _ refl (search rules) (search rules) in
    let step =
    one-met (g.T.Types.atoms c.args.types.now) (g.T.Types.atoms c.loop-c.types) (g.T.Types.atoms c.join_change.new.types) c.args.variables.now first c.args.ends.now.second.changes.items
    c.loop-c.joined.items c.join_change.new.joined.items first c.loop-c.c-index c.c-item.result c.loop-c.invariant.0 c.join_change.ensures.atoms
    c.in_ok-join_change.ensures.joined c.in_ok-join_change.ensures.kept c.in_ok-join_change.ensures.told at c.loop-c.invariant.2 in
    (step.0, step.1, step.2, subst (λ m. All (ChangeBelow (length m)) c.join_change.new.joined.items) c.loop-c.invariant.0 c.in_ok-join_change.ensures.below)

pub loop-c-2-init : goal.loop-c-2-init
loop-c-2-init g c =
    let past : length c.args.ends.now.first.changes.items ≤ c.loop-c.c-index = search rules in (
      c.loop-c.invariant.0,
      c.loop-c.invariant.1,
      covers-all c.loop-c.joined.items c.args.ends.now.first.changes.items c.loop-c.c-index past c.loop-c.invariant.2,
      All-nil (λ d. is_told c.loop-c.joined.items d.index ≡ true),
      c.loop-c.invariant.3,
    )

pub loop-c-2-preserved : goal.loop-c-2-preserved
loop-c-2-preserved g c =
    let second = c.args.ends.now.second.changes.items in
    let at : slice_get second c.loop-c-2.c-index ≡ Some c.c-item-in-loop-c-2.result = slice_get_read _ (length second) _ _ refl (search rules) (search rules) in
    let step =
    one-met (g.T.Types.atoms c.args.types.now) (g.T.Types.atoms c.loop-c-2.types) (g.T.Types.atoms c.join_change-in-loop-c-2.new.types) c.args.variables.now c.args.ends.now.first.changes.items
    second c.loop-c-2.joined.items c.join_change-in-loop-c-2.new.joined.items second c.loop-c-2.c-index c.c-item-in-loop-c-2.result c.loop-c-2.invariant.0
    c.join_change-in-loop-c-2.ensures.atoms c.in_ok-join_change-2.ensures.joined c.in_ok-join_change-2.ensures.kept c.in_ok-join_change-2.ensures.told at c.loop-c-2.invariant.3 in (
      step.0,
      step.1,
      covers-kept c.loop-c-2.joined.items c.join_change-in-loop-c-2.new.joined.items c.args.ends.now.first.changes.items c.in_ok-join_change-2.ensures.kept c.loop-c-2.invariant.2,
      step.2,
      subst (λ m. All (ChangeBelow (length m)) c.join_change-in-loop-c-2.new.joined.items) c.loop-c-2.invariant.0 c.in_ok-join_change-2.ensures.below,
    )

pub returns-clause-second : goal.returns-clause-second
returns-clause-second g c =
    let past : length c.args.ends.now.second.changes.items ≤ c.loop-c-2.c-index = search rules in
    covers-all c.loop-c-2.joined.items c.args.ends.now.second.changes.items c.loop-c-2.c-index past c.loop-c-2.invariant.3
