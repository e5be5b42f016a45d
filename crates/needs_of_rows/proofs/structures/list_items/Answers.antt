use Rattle.std.proofs.Common.{Option}
use Rattle.type_model.specs.declared.atoms.AtomDef.{AtomDef}
use Rattle.code_needs.specs.Combining.{◌&◌, at_most, of_list}
use Rattle.code_needs.specs.RowNeeds.{items_fit}
use Rattle.needs_of_rows.proofs.Finding.{found-missing, found-there}
use Rattle.needs_of_rows.proofs.structures.list_items.Goals as goal

pub returns-in-Some : goal.returns-in-Some
returns-in-Some c = found-there (λ (o : Option AtomDef). of_list o (λ fixed rest. at_most fixed c.args.count & items_fit c.args.items.now 0 fixed rest)) c.args.def c.in-Some.def _ _ c.in-Some.is c.items_of_list.ensures

pub returns-in-None : goal.returns-in-None
returns-in-None c = found-missing (λ (o : Option AtomDef). of_list o (λ fixed rest. at_most fixed c.args.count & items_fit c.args.items.now 0 fixed rest)) c.args.def _ _ c.in-None.is c.refuse.ensures
