use Rattle.std.proofs.Common.{Option}
use Rattle.type_model.specs.declared.basic.SemType.{SemType}
use Rattle.code_needs.specs.Combining.{nothing, of_some}
use Rattle.needs_of_rows.proofs.Finding.{found-missing, found-nothing, found-there}
use Rattle.needs_of_rows.proofs.kinds.something.Goals as goal

pub returns-in-Some : goal.returns-in-Some
returns-in-Some c = found-there (λ (o : Option SemType). of_some o (λ r. nothing)) c.args.given c.in-Some.field-0 _ _ c.in-Some.is (found-nothing _)

pub returns-in-None : goal.returns-in-None
returns-in-None c = found-missing (λ (o : Option SemType). of_some o (λ r. nothing)) c.args.given _ _ c.in-None.is c.refuse.ensures
