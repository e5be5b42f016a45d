use Rattle.std.proofs.Common.{◌<◌, length, get_or, arith}
use Rattle.std.proofs.lemmas.Option.{slice_get-get_or}
use Rattle.empty_product.proofs.ItemLists.{base-HasHeldItem, base-IsItemQuestion, void-IsInHeld}
use Rattle.empty_product.proofs.lists.unsettled.Goals as goal

pub returns-in-Void : goal.returns-in-Void
returns-in-Void g c = λ env base atoms asked items all.
    let kept = g.M.Member.kept c.args.m.now in
    let bases = c.args.bases.now in
    let i = c.loop-base.base-index in
    let lt : i < length bases = omega arith in
    let q = get_or bases i 0 in
    let count = all.count in
    base-HasHeldItem env base c.args.dia.now kept bases asked i q (slice_get-get_or bases i 0 lt) (void-IsInHeld env base c.args.dia.now kept q c.in-Void.ensures) items (omega (arith, lt, count)) all.inside

pub returns-in-Unknown : goal.returns-in-Unknown
returns-in-Unknown g c = λ env base atoms asked.
    let kept = g.M.Member.kept c.args.m.now in
    let bases = c.args.bases.now in
    let i = c.loop-base.base-index in
    let lt : i < length bases = omega arith in
    base-IsItemQuestion env base c.args.dia.now kept atoms bases asked i (get_or bases i 0) (slice_get-get_or bases i 0 lt) c.in-Unknown.ensures.0 c.in-Unknown.ensures.1
