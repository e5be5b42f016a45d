use Rattle.std.proofs.Common.{List, Option, subst}
use Rattle.type_model.specs.declared.basic.SemType.{SemType}
use Rattle.std.specs.Option.{option_copied}
use Rattle.std.proofs.Common.{length}
use Rattle.stack_code.specs.declared.code.Unit.{Unit as CodeUnit}
use Rattle.code_needs.specs.Combining.{◌&◌, as_many, of_some}
use Rattle.code_needs.specs.RowNeeds.{below_each, has_all}
use Rattle.needs_of_rows.specs.Finding.{Finds}
use Rattle.needs_of_rows.proofs.Finding.{found-missing, found-there}
use Rattle.needs_of_places.proofs.named.call_row.Goals as goal

pub returns-in-Some : goal.returns-in-Some
returns-in-Some c =
    found-there (λ (o : Option CodeUnit). of_some o (λ (u : CodeUnit). as_many c.args.taken.operands.now (length u.params) & below_each c.args.taken.operands.now u.params & has_all (option_copied c.args.taken.given) u.result)) c.args.unit c.in-Some.u _ _ c.in-Some.is
    (subst (λ (us : List SemType). Finds (as_many c.args.taken.operands.now (length us) & below_each c.args.taken.operands.now c.in-Some.u.now.params & has_all (option_copied c.args.taken.given) c.in-Some.u.now.result) c.args.found.now c.calls.new.found) c.as_slice.ensures c.calls.ensures)

pub returns-in-None : goal.returns-in-None
returns-in-None c = found-missing (λ (o : Option CodeUnit). of_some o (λ (u : CodeUnit). as_many c.args.taken.operands.now (length u.params) & below_each c.args.taken.operands.now u.params & has_all (option_copied c.args.taken.given) u.result)) c.args.unit _ _ c.in-None.is c.refuse.ensures
