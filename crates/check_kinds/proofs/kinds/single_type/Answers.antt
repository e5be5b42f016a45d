use Rattle.std.proofs.Common.{ap, ◌∙◌}
use Rattle.descriptors.specs.Described.{plain}
use Rattle.type_model.specs.declared.basic.BasicSet.{BasicSet}
use Rattle.type_model.specs.declared.basic.SemType.{Basic}
use Rattle.check_kinds.proofs.Shapes.{single-below, single-of}
use Rattle.check_kinds.proofs.kinds.single_type.Goals as goal

pub returns-clause-is : goal.returns-clause-is
returns-clause-is c = single-of c.args.value.now c.plain.result (c.plain.ensures ∙ ap (λ (b : BasicSet). plain (Basic b)) c.constant_set.ensures)

pub returns-clause-defined : goal.returns-clause-defined
returns-clause-defined c = single-below c.args.value.now c.plain.result (c.plain.ensures ∙ ap (λ (b : BasicSet). plain (Basic b)) c.constant_set.ensures)
