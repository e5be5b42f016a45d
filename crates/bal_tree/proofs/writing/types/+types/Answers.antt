use Rattle.std.proofs.Common.{arith}
use Rattle.bal_base.specs.declared.token.Sign.TheVariants.{Comma}
use Rattle.bal_tree.specs.TypePieces.{type_pieces, field_pieces, param_type_pieces}
use Rattle.bal_tree.proofs.Adding.{joined-more, separated-more}
use Rattle.bal_tree.proofs.writing.types.+types.Goals as goal

pub type_list-loop-i-preserved : goal.type_list-loop-i-preserved
type_list-loop-i-preserved t c =
    separated-more type_pieces Comma c.args.types.now c.loop-i.i c.index-types-i.result c.args.out.now c.loop-i.out c.sign_if.new.out c.type_tree.new.out c.loop-i-test.true c.index-types-i.is c.loop-i.invariant c.sign_if.ensures c.type_tree.ensures

pub param_type_list-loop-i-preserved : goal.param_type_list-loop-i-preserved
param_type_list-loop-i-preserved t c =
    separated-more param_type_pieces Comma c.args.params.now c.loop-i.i c.index-params-i.result c.args.out.now c.loop-i.out c.sign_if.new.out c.param_type.new.out c.loop-i-test.true c.index-params-i.is c.loop-i.invariant c.sign_if.ensures c.param_type.ensures

pub field_list-loop-f-preserved : goal.field_list-loop-f-preserved
field_list-loop-f-preserved t c =
    joined-more field_pieces c.args.fields.now c.loop-f.f-index c.f-item.result c.args.out.now c.loop-f.out c.field.new.out (grind (arith, c.loop-f-test.true)) c.f-item.is c.loop-f.invariant c.field.ensures
