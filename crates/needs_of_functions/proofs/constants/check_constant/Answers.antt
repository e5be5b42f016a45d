use Rattle.std.proofs.Common.{refl}
use Rattle.type_model.proofs.Kept.{KeepsTypes-same}
use Rattle.check_work.specs.Views.{state_of}
use Rattle.needs_of_functions.proofs.Fitting.{constant-comes, constant-free}
use Rattle.needs_of_functions.proofs.constants.check_constant.Goals as goal

pub returns-in-Some-clause-comes : goal.returns-in-Some-clause-comes
returns-in-Some-clause-comes g c =
    let env = g.T.Types.atoms c.args.types.now in
    constant-comes g.T.Types.passes c.args.d.now.value c.args.names.now c.args.d.now c.args.d.now.ty c.in-Some.tree _ (state_of env c.args.work.now) _ _ c.in-Some.is c.deref.ensures refl
    c.require_described.ensures.comes

pub returns-in-None-clause-kept : goal.returns-in-None-clause-kept
returns-in-None-clause-kept g c = KeepsTypes-same (g.T.Types.atoms c.args.types.now)

pub returns-in-None-clause-comes : goal.returns-in-None-clause-comes
returns-in-None-clause-comes g c =
    constant-free g.T.Types.passes c.args.d.now.value c.args.names.now c.args.d.now c.args.d.now.ty (state_of (g.T.Types.atoms c.args.types.now) c.args.work.now) c.in-None.is
