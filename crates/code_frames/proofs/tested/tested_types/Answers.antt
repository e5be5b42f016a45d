use Rattle.std.proofs.Common.{◌≡◌, ◌<◌, arith, get_or, length, subst}
use Rattle.type_model.specs.SameType.{IsSameType}
use Rattle.typed_tree.specs.SharedTypes.{sem_of}
use Rattle.code_frames.proofs.Listing.{zips-next}
use Rattle.code_frames.proofs.tested.tested_types.Goals as goal

pub loop-sem-preserved : goal.loop-sem-preserved
loop-sem-preserved c =
    let k = c.loop-sem.sem-index in
    let sem = c.sem-item.result in
    let same = c.as_slice-sem-items.ensures in
    zips-next IsSameType sem_of c.args.code.now.tested k sem c.loop-sem.types.items _ c.in_ok-shared_type.field-0
    (subst (λ l. k < length l) same (grind (arith, c.loop-sem-test.true))) (subst (λ l. sem ≡ get_or l k sem) same c.sem-item.is) c.in_ok-push.ensures.items c.loop-sem.invariant c.in_ok-shared_type.ensures
