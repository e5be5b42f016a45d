use Rattle.std.proofs.Common.{Option}
use Rattle.type_model.specs.declared.basic.SemType.{SemType}
use Rattle.code_needs.specs.Combining.{of_some}
use Rattle.code_needs.specs.declared.kind.Kind.TheVariants.{Booleans}
use Rattle.code_needs.specs.RowNeeds.{within}
use Rattle.needs_of_rows.proofs.Finding.{found-missing, found-there}
use Rattle.needs_of_commands.proofs.branches.condition.Goals as goal

pub returns-in-Some : goal.returns-in-Some
returns-in-Some c = found-there (λ (o : Option SemType). of_some o (λ t. within t Booleans)) c.args.condition c.in-Some.t _ _ c.in-Some.is c.within.ensures

pub returns-in-None : goal.returns-in-None
returns-in-None c = found-missing (λ (o : Option SemType). of_some o (λ t. within t Booleans)) c.args.condition _ _ c.in-None.is c.refuse.ensures
