use Rattle.std.proofs.Common.{Option}
use Rattle.type_model.specs.declared.basic.SemType.{SemType}
use Rattle.std.specs.Option.{option_copied}
use Rattle.code_needs.specs.RowNeeds.{reads}
use Rattle.needs_of_rows.proofs.Finding.{found-missing, found-there}
use Rattle.needs_of_rows.proofs.slots.read.Goals as goal

pub returns-in-Some : goal.returns-in-Some
returns-in-Some c = found-there (λ (o : Option SemType). reads o (option_copied c.args.given)) c.args.held c.in-Some.t _ _ c.in-Some.is c.has_all.ensures

pub returns-in-None : goal.returns-in-None
returns-in-None c = found-missing (λ (o : Option SemType). reads o (option_copied c.args.given)) c.args.held _ _ c.in-None.is c.refuse.ensures
