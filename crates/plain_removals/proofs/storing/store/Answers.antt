use Rattle.std.proofs.Common.{◌≡◌, ◌∙◌, Some, ap, get_or, length, map, refl, subst}
use Rattle.std.specs.Prelude.{slice_get}
use Rattle.std.proofs.lemmas.Option.{slice_get_read}
use Rattle.op_model.specs.Rows.{with_structures}
use Rattle.plain_run.specs.Held.{members_of, structure_of, world_of}
use Rattle.plain_run.proofs.Given.{on-ok}
use Rattle.plain_removals.proofs.Stored.{structures-stored}
use Rattle.plain_removals.proofs.storing.store.Goals as goal

pub returns : goal.returns
returns c =
    let xs = c.args.world.now.heap.structures in
    let n = c.args.n in
    let held = c.index-deref-n.result in
    let there : slice_get xs n ≡ Some held = slice_get_read xs (length xs) n held refl c.requires (subst (λ ys. held ≡ get_or ys n held) c.deref.ensures.value c.index-deref-n.is) in
    on-ok _ _ c.put.result (λ e. λ s stands. ap (with_structures (world_of c.args.world.now)) (ap (map structure_of) e ∙ structures-stored xs n held c.with_members-made.result s (members_of c.args.members) there c.with_members-made.ensures stands)) c.put.ensures.put
