use Rattle.std.proofs.Common.{List, Some, subst}
use Rattle.type_model.specs.declared.atoms.AtomDef.{AtomDef}
use Rattle.type_model.specs.declared.basic.Ty.{Ty}
use Rattle.code_needs.specs.Combining.{◌&◌, at_most, of_list}
use Rattle.code_needs.specs.RowNeeds.{items_fit}
use Rattle.needs_of_rows.specs.Finding.{Finds}
use Rattle.needs_of_rows.proofs.Finding.{found-where}
use Rattle.needs_of_rows.proofs.structures.items_of_list.Goals as goal

pub returns-in-List : goal.returns-in-List
returns-in-List c =
    found-where (λ (d : AtomDef). of_list (Some d) (λ fixed rest. at_most fixed c.args.count & items_fit c.args.items.now 0 fixed rest)) c.args.def.now _ _ _ c.in-List.is
    (subst (λ (ts : List Ty). Finds (at_most ts c.args.count & items_fit c.args.items.now 0 ts c.in-List.rest) c.args.found.now c.items_in.new.found) c.as_slice.ensures c.items_in.ensures)
