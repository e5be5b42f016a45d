use Rattle.std.proofs.Common.{Some, subst, ap, ◌∙◌, map}
use Rattle.plain_run.specs.Held.{structure_of, world_of}
use Rattle.plain_stores.specs.Changes.{EntryHasRoom}
use Rattle.plain_stores.proofs.Stored.{entry-done, entry-full}
use Rattle.plain_stores.proofs.keys.stores.Goals as goal

pub returns-in_ok-set_key_at-in-Some-true-clause-row : goal.returns-in_ok-set_key_at-in-Some-true-clause-row
returns-in_ok-set_key_at-in-Some-true-clause-row c =
    let w = world_of c.args.world.now in
    let room = subst (EntryHasRoom w c.args.n c.args.key.now) (c.in-Some-true.is ∙ ap Some c.in-Some-true.field-0-test) c.entry_has_room.ensures in
    entry-done w c.args.n c.args.key.now c.args.v.now (map structure_of c.set_key_at.new.structures) room c.in_ok-set_key_at-in-Some-true.ensures

pub returns-in-Some-false-clause-row : goal.returns-in-Some-false-clause-row
returns-in-Some-false-clause-row c =
    let w = world_of c.args.world.now in
    let room = subst (EntryHasRoom w c.args.n c.args.key.now) (c.in-Some-false.is ∙ ap Some c.in-Some-false.field-0-test) c.entry_has_room.ensures in
    entry-full w c.args.n c.args.key.now c.args.v.now room
