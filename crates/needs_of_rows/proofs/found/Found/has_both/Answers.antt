use Rattle.std.proofs.Common.{Option}
use Rattle.type_model.specs.declared.basic.SemType.{SemType}
use Rattle.code_needs.specs.Combining.{need, of_some}
use Rattle.code_needs.specs.Needs.{HasBoth}
use Rattle.needs_of_rows.proofs.Finding.{found-missing, found-there}
use Rattle.needs_of_rows.proofs.found.Found.has_both.Goals as goal

pub returns-in-Some : goal.returns-in-Some
returns-in-Some c = found-there (λ (o : Option SemType). of_some o (λ r. need (HasBoth r c.args.s.now c.args.t.now))) c.args.given c.in-Some.r _ _ c.in-Some.is c.ask.ensures

pub returns-in-None : goal.returns-in-None
returns-in-None c = found-missing (λ (o : Option SemType). of_some o (λ r. need (HasBoth r c.args.s.now c.args.t.now))) c.args.given _ _ c.in-None.is c.refuse.ensures
