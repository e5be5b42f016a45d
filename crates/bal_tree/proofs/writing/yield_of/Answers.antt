use Rattle.std.proofs.Common.{◌≡◌, ◌<◌, ◌^◌, ◌∙◌, ap, subst}
use Rattle.bal_tree.specs.DefPieces.{file_pieces}
use Rattle.bal_tree.specs.Writing.{behind_all, empty}
use Rattle.bal_tree.proofs.Kept.{all-kept}
use Rattle.bal_tree.proofs.writing.yield_of.Goals as goal

pub returns : goal.returns
returns c =
    let pieces = file_pieces c.args.tree.now in
    let counted = c.file.new.out in
    let small : counted.count < 2 ^ 63 = subst (λ n. n < 2 ^ 63) c.count.ensures c.in_ok-out.ensures.room in
    c.into_tokens.ensures
    ∙ all-kept pieces counted c.file-2.new.out (c.file.ensures ∙ ap (behind_all pieces) c.in_ok-counted.ensures.nothing) small
    (c.file-2.ensures ∙ ap (behind_all pieces) (c.in_ok-out.ensures.nothing ∙ ap empty c.count.ensures))
