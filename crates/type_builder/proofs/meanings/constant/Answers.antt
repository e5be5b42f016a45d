use Rattle.std.proofs.Common.{ap, ◌∙◌}
use Rattle.descriptors.specs.Described.{plain}
use Rattle.type_model.specs.declared.basic.SemType.{Basic}
use Rattle.descriptors.proofs.Drafting.{handed-on}
use Rattle.type_builder.proofs.Meant.{constant-given, constant-stops}
use Rattle.type_builder.proofs.meanings.constant.Goals as goal

pub returns-in_err-_declared : goal.returns-in_err-_declared
returns-in_err-_declared c = handed-on _ _ _ _ _ _ _ c.from_residual.ensures (constant-stops c.args.names.now c.args.scope c.args.d.now _ _ _ c.in_err-_declared.ensures)

pub returns : goal.returns
returns c =
    constant-given c.args.names.now c.args.scope c.args.d.now c.plain.result _ _ _ (c.plain.ensures ∙ ap (λ b. plain (Basic b)) c.value_set.ensures) c.in_ok-_declared.ensures
