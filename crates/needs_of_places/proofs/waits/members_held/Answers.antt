use Rattle.std.proofs.Common.{◌==◌, List, Some, length, subst}
use Rattle.type_model.specs.declared.atoms.AtomDef.{AtomDef}
use Rattle.type_model.specs.declared.atoms.FieldDef.{FieldDef}
use Rattle.code_needs.specs.Combining.{◌&◌, of_mapping, test}
use Rattle.code_needs.specs.RowNeeds.{awaits, held_by}
use Rattle.needs_of_rows.specs.Finding.{Finds}
use Rattle.needs_of_rows.proofs.Finding.{found-where}
use Rattle.needs_of_places.specs.Sites.{known_at}
use Rattle.needs_of_places.proofs.waits.members_held.Goals as goal

pub returns-in-Mapping : goal.returns-in-Mapping
returns-in-Mapping c =
    found-where (λ (d : AtomDef). of_mapping (Some d) (λ fields rest. test (length c.args.names.now == length fields) & awaits (known_at c.args.site) (held_by fields) 0 c.args.names.now c.args.taken.operands.now)) c.args.def.now _ _ _ c.in-Mapping.is
    (subst (λ (fields : List FieldDef). Finds (test (length c.args.names.now == length fields) & awaits (known_at c.args.site) (held_by fields) 0 c.args.names.now c.args.taken.operands.now) c.args.found.now c.fields_held.new.found) c.as_slice.ensures c.fields_held.ensures)
