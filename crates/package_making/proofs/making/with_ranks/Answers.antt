use Rattle.std.proofs.Common.{◌∙◌, ap, get_or, length}
use Rattle.package_making.specs.Making.{rank}
use Rattle.package_making.proofs.Grouped.{ranked-more}
use Rattle.package_making.proofs.making.with_ranks.Goals as goal

pub loop-file-preserved : goal.loop-file-preserved
loop-file-preserved c =
    let order = c.args.order.now in
    let numbers = c.args.numbers.now in
    let is = c.rank-rank.ensures ∙ ap (rank order) (c.number_at.ensures ∙ ap (λ l. get_or numbers (length l) 0) c.as_slice-before.ensures.value) in
    c.in_ok-push.ensures.items ∙ ranked-more order numbers c.loop-file.placed.items c.loop-file.yielded c.in-Some.file c.rank-rank.result c.loop-file.invariant is
