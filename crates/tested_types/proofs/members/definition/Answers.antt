use Rattle.std.proofs.Common.{ap, sym}
use Rattle.type_model.specs.declared.atoms.FieldDef.{FieldDef}
use Rattle.type_model.specs.declared.basic.Ty.{Ty}
use Rattle.type_model.specs.SameType.{IsSameType}
use Rattle.op_model.specs.Inherent.{member_types}
use Rattle.tested_types.proofs.Retold.{front-same, listed-as, mapped-same}
use Rattle.tested_types.proofs.members.definition.Goals as goal

pub returns-in-List : goal.returns-in-List
returns-in-List c =
    listed-as (λ (m : Ty) u. IsSameType u m.sem) _ (member_types c.args.d.now) _ _ _ c.of_lists.ensures
    (front-same _ _ _ _ c.as_slice.ensures (sym (ap member_types c.in-List.is)))

pub returns-in-Mapping : goal.returns-in-Mapping
returns-in-Mapping c =
    listed-as (λ (m : Ty) u. IsSameType u m.sem) _ (member_types c.args.d.now) _ _ _ c.of_mappings.ensures
    (mapped-same (λ (f : FieldDef). f.ty) _ _ _ _ c.as_slice-in-Mapping.ensures (sym (ap member_types c.in-Mapping.is)))
