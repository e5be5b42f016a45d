use Rattle.std.specs.Prelude.{option_to_list}
use Rattle.type_model.specs.declared.atoms.FieldDef.{FieldDef}
use Rattle.type_model.specs.declared.basic.Ty.{Ty}
use Rattle.type_model.specs.SameType.{IsSameType}
use Rattle.tested_types.proofs.Retold.{fields-noted}
use Rattle.tested_types.proofs.members.of_mappings.Goals as goal

pub returns : goal.returns
returns c = fields-noted (λ (f : FieldDef). f.ty) (λ (m : Ty) u. IsSameType u m.sem) c.args.own.now (option_to_list c.args.last.now) _ _ _ _ c.in_ok-fields.ensures c.rest.ensures
