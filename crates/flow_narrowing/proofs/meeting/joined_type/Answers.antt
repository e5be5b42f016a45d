use Rattle.std.proofs.Common.{◌≡◌, Some, length, slice_get, refl, rules}
use Rattle.std.proofs.lemmas.Option.{slice_get_past, slice_get_read}
use Rattle.flow_narrowing.proofs.MetWays.{below-at, none-there, type-at}
use Rattle.flow_narrowing.proofs.meeting.joined_type.Goals as goal

pub union_of-requires-clause-first : goal.union_of-requires-clause-first
union_of-requires-clause-first g c =
    let there : slice_get c.args.variables.now c.args.index ≡ Some c.in-Some.v.now = slice_get_read _ (length c.args.variables.now) _ _ refl (search rules) (search rules) in
    below-at (length (g.T.Types.atoms c.args.types.now)) c.args.ends.now.first.changes.items c.as_slice.result.now c.args.variables.now c.args.index c.in-Some.v.now
    c.or_declared-s.result.now.value c.told-first.result.now c.requires.first there c.as_slice.ensures.value c.told-first.ensures c.or_declared-s.ensures

pub union_of-requires-clause-second : goal.union_of-requires-clause-second
union_of-requires-clause-second g c =
    let there : slice_get c.args.variables.now c.args.index ≡ Some c.in-Some.v.now = slice_get_read _ (length c.args.variables.now) _ _ refl (search rules) (search rules) in
    below-at (length (g.T.Types.atoms c.args.types.now)) c.args.ends.now.second.changes.items c.as_slice-in-Some.result.now c.args.variables.now c.args.index c.in-Some.v.now
    c.or_declared-t.result.now.value c.told-second.result.now c.requires.second there c.as_slice-in-Some.ensures.value c.told-second.ensures c.or_declared-t.ensures

pub returns-in-Some-clause-joined : goal.returns-in-Some-clause-joined
returns-in-Some-clause-joined g c =
    let there : slice_get c.args.variables.now c.args.index ≡ Some c.in-Some.v.now = slice_get_read _ (length c.args.variables.now) _ _ refl (search rules) (search rules) in
    type-at (g.T.Types.atoms c.args.types.now) c.args.variables.now c.args.ends.now.first.changes.items c.args.ends.now.second.changes.items c.as_slice.result.now c.as_slice-in-Some.result.now
    c.args.index c.in-Some.v.now c.or_declared-s.result.now.value c.or_declared-t.result.now.value c.told-first.result.now c.told-second.result.now c.union_of.result there
    c.as_slice.ensures.value c.as_slice-in-Some.ensures.value c.told-first.ensures c.told-second.ensures c.or_declared-s.ensures c.or_declared-t.ensures c.union_of.ensures.union

pub returns-in-None-clause-joined : goal.returns-in-None-clause-joined
returns-in-None-clause-joined g c = none-there _ _ (slice_get_past c.args.variables.now c.args.index (search rules))
