use Rattle.std.proofs.Common.{List, Some, subst}
use Rattle.type_model.specs.declared.atoms.AtomDef.{AtomDef}
use Rattle.type_model.specs.declared.basic.Ty.{Ty}
use Rattle.code_needs.specs.Combining.{◌&◌, none, of_list, of_some}
use Rattle.needs_of_rows.specs.Finding.{Finds}
use Rattle.needs_of_rows.specs.inner.ItemsMade.{items_of}
use Rattle.needs_of_rows.proofs.Finding.{found-where}
use Rattle.needs_of_rows.proofs.library.list_by.Goals as goal

pub returns-in-List : goal.returns-in-List
returns-in-List c =
    found-where (λ (d : AtomDef). of_list (Some d) (λ fixed rest. none fixed & of_some rest (λ t. items_of c.args.items t.sem))) c.args.def.now _ _ _ c.in-List.is
    (subst (λ (ts : List Ty). Finds (none ts & of_some c.in-List.rest (λ t. items_of c.args.items t.sem)) c.args.found.now c.rest_alone.new.found) c.as_slice.ensures c.rest_alone.ensures)
