use Rattle.std.proofs.Common.{arith}
use Rattle.bal_base.specs.declared.token.Sign.TheVariants.{Comma}
use Rattle.bal_tree.specs.ExprPieces.{expr_pieces, member_pieces, detail_pieces}
use Rattle.bal_tree.proofs.Adding.{behind-more, separated-more}
use Rattle.bal_tree.proofs.writing.exprs.+exprs.Goals as goal

pub exprs-loop-i-preserved : goal.exprs-loop-i-preserved
exprs-loop-i-preserved t c =
    separated-more expr_pieces Comma c.args.es.now c.loop-i.i c.index-es-i.result c.args.out.now c.loop-i.out c.sign_if.new.out c.expr.new.out c.loop-i-test.true c.index-es-i.is c.loop-i.invariant c.sign_if.ensures c.expr.ensures

pub member_list-loop-i-preserved : goal.member_list-loop-i-preserved
member_list-loop-i-preserved t c =
    separated-more member_pieces Comma c.args.ms.now c.loop-i.i c.index-ms-i.result c.args.out.now c.loop-i.out c.sign_if.new.out c.member.new.out c.loop-i-test.true c.index-ms-i.is c.loop-i.invariant c.sign_if.ensures c.member.ensures

pub detail_list-loop-d-preserved : goal.detail_list-loop-d-preserved
detail_list-loop-d-preserved t c =
    behind-more detail_pieces Comma c.args.ds.now c.loop-d.d-index c.d-item.result c.args.out.now c.loop-d.out c.next_detail.new.out (grind (arith, c.loop-d-test.true)) c.d-item.is c.loop-d.invariant c.next_detail.ensures
