use Rattle.std.proofs.Common.{Option}
use Rattle.type_model.specs.declared.basic.SemType.{SemType}
use Rattle.code_needs.specs.Combining.{need, of_some}
use Rattle.code_needs.specs.Needs.{Below}
use Rattle.needs_of_rows.proofs.Finding.{found-missing, found-there}
use Rattle.needs_of_rows.proofs.slots.write.Goals as goal

pub returns-in-Some : goal.returns-in-Some
returns-in-Some c = found-there (λ (o : Option SemType). of_some o (λ t. need (Below c.args.v.now t))) c.args.held c.in-Some.t _ _ c.in-Some.is c.below.ensures

pub returns-in-None : goal.returns-in-None
returns-in-None c = found-missing (λ (o : Option SemType). of_some o (λ t. need (Below c.args.v.now t))) c.args.held _ _ c.in-None.is c.refuse.ensures
