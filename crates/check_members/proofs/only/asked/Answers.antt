use Rattle.std.proofs.Common.{ap}
use Rattle.type_model.specs.declared.basic.BasicSet.{BasicSet}
use Rattle.type_model.specs.declared.basic.SemType.{Basic}
use Rattle.check_members.proofs.OnlyShapes.{asked-so, asked-stops}
use Rattle.check_members.proofs.only.asked.Goals as goal

pub returns-in-Ok-clause-comes : goal.returns-in-Ok-clause-comes
returns-in-Ok-clause-comes g c =
    asked-so g.T.Types.passes c.args.t.now c.args.at (g.T.Types.atoms c.args.types.now) (g.T.Types.atoms c.is_below.new.types) c.args.value c.in-Ok.so c.kept_if.result (Basic c.constant_set.result) c.kept_if.ensures
    (ap (λ (b : BasicSet). Basic b) c.constant_set.ensures) c.requires.candidate c.in-Ok.ensures.comes

pub returns-in-Err-clause-comes : goal.returns-in-Err-clause-comes
returns-in-Err-clause-comes g c =
    asked-stops g.T.Types.passes c.args.t.now c.args.at (g.T.Types.atoms c.args.types.now) (g.T.Types.atoms c.is_below.new.types) c.args.value (Basic c.constant_set.result) c.in-Err.stop
    (ap (λ (b : BasicSet). Basic b) c.constant_set.ensures) c.requires.candidate c.in-Err.ensures.comes
