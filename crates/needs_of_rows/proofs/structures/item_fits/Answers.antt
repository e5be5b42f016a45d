use Rattle.std.proofs.Common.{Option}
use Rattle.type_model.specs.declared.basic.Ty.{Ty}
use Rattle.code_needs.specs.Combining.{need, of_some}
use Rattle.code_needs.specs.Needs.{Below}
use Rattle.needs_of_rows.proofs.Finding.{found-missing, found-there}
use Rattle.needs_of_rows.proofs.structures.item_fits.Goals as goal

pub returns-in-Some : goal.returns-in-Some
returns-in-Some c = found-there (λ (o : Option Ty). of_some o (λ u. need (Below c.args.item.now u.sem))) c.args.t c.in-Some.t _ _ c.in-Some.is c.below.ensures

pub returns-in-None : goal.returns-in-None
returns-in-None c = found-missing (λ (o : Option Ty). of_some o (λ u. need (Below c.args.item.now u.sem))) c.args.t _ _ c.in-None.is c.refuse.ensures
