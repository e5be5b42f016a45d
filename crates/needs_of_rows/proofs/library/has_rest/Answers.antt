use Rattle.std.proofs.Common.{Option}
use Rattle.type_model.specs.declared.basic.Ty.{Ty}
use Rattle.code_needs.specs.Combining.{of_some}
use Rattle.needs_of_rows.specs.inner.ItemsMade.{items_of}
use Rattle.needs_of_rows.proofs.Finding.{found-where}
use Rattle.needs_of_rows.proofs.library.has_rest.Goals as goal

pub returns-in-Some : goal.returns-in-Some
returns-in-Some c = found-where (λ (o : Option Ty). of_some o (λ t. items_of c.args.items t.sem)) c.args.rest.now _ _ _ c.in-Some.is c.has_items.ensures

pub returns-in-None : goal.returns-in-None
returns-in-None c = found-where (λ (o : Option Ty). of_some o (λ t. items_of c.args.items t.sem)) c.args.rest.now _ _ _ c.in-None.is c.refuse.ensures
