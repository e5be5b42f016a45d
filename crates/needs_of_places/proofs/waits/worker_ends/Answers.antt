use Rattle.std.proofs.Common.{Option}
use Rattle.std.specs.Option.{option_copied}
use Rattle.type_model.specs.declared.basic.SemType.{SemType}
use Rattle.code_needs.specs.Combining.{of_some}
use Rattle.code_needs.specs.RowNeeds.{has_all}
use Rattle.needs_of_rows.proofs.Finding.{found-missing, found-there}
use Rattle.needs_of_places.proofs.waits.worker_ends.Goals as goal

pub returns-in-Some : goal.returns-in-Some
returns-in-Some c = found-there (λ (o : Option SemType). of_some o (λ t. has_all (option_copied c.args.held) t)) c.args.ended c.in-Some.t _ _ c.in-Some.is c.has_all.ensures

pub returns-in-None : goal.returns-in-None
returns-in-None c = found-missing (λ (o : Option SemType). of_some o (λ t. has_all (option_copied c.args.held) t)) c.args.ended _ _ c.in-None.is c.refuse.ensures
