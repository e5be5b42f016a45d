use Rattle.descriptors.proofs.Drafting.{handed-on}
use Rattle.type_builder.proofs.Meant.{const-comes, function-given, function-stops, type-given, type-stops, variable-given, variable-lacks, variable-stops}
use Rattle.type_builder.proofs.meanings.meaning.Goals as goal

pub returns-in_err-t-in-Type : goal.returns-in_err-t-in-Type
returns-in_err-t-in-Type c = handed-on _ _ _ _ _ _ _ c.from_residual.ensures
    (type-stops c.args.names.now c.args.scope c.args.before c.args.def.now _ _ _ _ _ c.in-Type.is c.deref.ensures c.in_err-t-in-Type.ensures)

pub returns-in_ok-t-in-Type : goal.returns-in_ok-t-in-Type
returns-in_ok-t-in-Type c = type-given c.args.names.now c.args.scope c.args.before c.args.def.now _ _ _ _ _ c.in-Type.is c.deref.ensures c.in_ok-t-in-Type.ensures

pub returns-in-Const : goal.returns-in-Const
returns-in-Const c = const-comes c.args.names.now c.args.scope c.args.before c.args.def.now _ _ _ _ c.in-Const.is c.constant.ensures

pub returns-in_err-t-in-Variable : goal.returns-in_err-t-in-Variable
returns-in_err-t-in-Variable c = handed-on _ _ _ _ _ _ _ c.from_residual-in_err-t-in-Variable.ensures
    (variable-stops c.args.names.now c.args.scope c.args.before c.args.def.now _ _ _ _ _ c.in-Variable.is c.deref-in-Variable.ensures c.in_err-t-in-Variable.ensures)

pub returns-in_ok-ty-in-Variable : goal.returns-in_ok-ty-in-Variable
returns-in_ok-ty-in-Variable c = variable-given c.args.names.now c.args.scope c.args.before c.args.def.now _ _ _ _ _ _ c.in-Variable.is c.deref-in-Variable.ensures c.in_ok-ty-in-Variable.ensures c.in_ok-t-in-Variable.ensures

pub returns-in_err-signature-in-Function : goal.returns-in_err-signature-in-Function
returns-in_err-signature-in-Function c = handed-on _ _ _ _ _ _ _ c.from_residual-in_err-signature-in-Function.ensures
    (function-stops c.args.names.now c.args.scope c.args.before c.args.def.now _ _ _ _ c.in-Function.is c.in_err-signature-in-Function.ensures)

pub returns-in_ok-signature-in-Function : goal.returns-in_ok-signature-in-Function
returns-in_ok-signature-in-Function c = function-given c.args.names.now c.args.scope c.args.before c.args.def.now _ _ _ _ c.in-Function.is c.in_ok-signature-in-Function.ensures

pub returns-in_err-ty-in-Variable : goal.returns-in_err-ty-in-Variable
returns-in_err-ty-in-Variable c = handed-on _ _ _ _ _ _ _ c.from_residual-in_err-ty-in-Variable.ensures
    (variable-lacks c.args.names.now c.args.scope c.args.before c.args.def.now _ _ _ _ _ c.in-Variable.is c.deref-in-Variable.ensures c.in_ok-t-in-Variable.ensures)
