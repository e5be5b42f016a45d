use Rattle.std.proofs.Common.{Option}
use Rattle.type_model.specs.declared.atoms.AtomDef.{AtomDef}
use Rattle.code_needs.specs.Combining.{◌&◌, none, of_list, of_some}
use Rattle.needs_of_rows.specs.inner.ItemsMade.{items_of}
use Rattle.needs_of_rows.proofs.Finding.{found-missing, found-there}
use Rattle.needs_of_rows.proofs.library.list_of.Goals as goal

pub returns-in-Some : goal.returns-in-Some
returns-in-Some c = found-there (λ (o : Option AtomDef). of_list o (λ fixed rest. none fixed & of_some rest (λ t. items_of c.args.items t.sem))) c.args.def c.in-Some.def _ _ c.in-Some.is c.list_by.ensures

pub returns-in-None : goal.returns-in-None
returns-in-None c = found-missing (λ (o : Option AtomDef). of_list o (λ fixed rest. none fixed & of_some rest (λ t. items_of c.args.items t.sem))) c.args.def _ _ c.in-None.is c.refuse.ensures
