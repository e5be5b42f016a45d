use Rattle.std.proofs.Common.{Option}
use Rattle.std.specs.Option.{option_copied}
use Rattle.type_model.specs.declared.basic.SemType.{SemType}
use Rattle.code_needs.specs.Combining.{of_some, one}
use Rattle.code_needs.specs.declared.kind.Kind.TheVariants.{Booleans}
use Rattle.code_needs.specs.RowNeeds.{has}
use Rattle.needs_of_rows.proofs.Finding.{found-missing, found-there}
use Rattle.needs_of_places.proofs.named.test_row.Goals as goal

pub returns-in-Some : goal.returns-in-Some
returns-in-Some c = found-there (λ (o : Option SemType). of_some o (λ u. one c.args.taken.operands.now (λ v. has (option_copied c.args.taken.given) Booleans))) c.args.t c.in-Some.field-0 _ _ c.in-Some.is c.tests.ensures

pub returns-in-None : goal.returns-in-None
returns-in-None c = found-missing (λ (o : Option SemType). of_some o (λ u. one c.args.taken.operands.now (λ v. has (option_copied c.args.taken.given) Booleans))) c.args.t _ _ c.in-None.is c.refuse.ensures
