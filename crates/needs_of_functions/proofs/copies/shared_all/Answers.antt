use Rattle.std.proofs.Common.{◌+◌, take, sym, subst, arith}
use Rattle.std.proofs.lemmas.List.Elements.{all_zip_more}
use Rattle.std.specs.List.{AllZip}
use Rattle.check_words.specs.Sharing.{SameShared}
use Rattle.needs_of_functions.proofs.copies.shared_all.Goals as goal

pub loop-t-preserved : goal.loop-t-preserved
loop-t-preserved c =
    subst (AllZip SameShared (take (c.loop-t.t-index + 1) c.args.types.now)) (sym c.in_ok-push.ensures.items)
    (all_zip_more SameShared c.args.types.now c.loop-t.handles.items c.loop-t.t-index c.t-item.result c.in_ok-shared.field-0 (omega arith) c.t-item.is c.loop-t.invariant
    c.in_ok-shared.ensures)
