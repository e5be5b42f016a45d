use Rattle.std.proofs.Common.{List, Option, subst, sym}
use Rattle.type_model.specs.declared.basic.SemType.{SemType}
use Rattle.std.specs.Option.{option_copied}
use Rattle.stack_code.specs.declared.code.Unit.{Unit as CodeUnit}
use Rattle.code_needs.specs.Combining.{◌&◌, of_some}
use Rattle.code_needs.specs.RowNeeds.{below_each, has_all}
use Rattle.needs_of_rows.specs.Finding.{Finds}
use Rattle.needs_of_rows.proofs.Finding.{found-missing}
use Rattle.needs_of_rows.proofs.callees.called.Goals as goal

pub returns-in-Some : goal.returns-in-Some
returns-in-Some c =
    subst (λ o. Finds (of_some (option_copied o) (λ (u : CodeUnit). below_each c.args.operands.now u.params & has_all (option_copied c.args.given) u.result)) c.args.found.now c.passes.new.found) (sym c.in-Some.is)
    (subst (λ (ts : List SemType). Finds (below_each c.args.operands.now ts & has_all (option_copied c.args.given) c.in-Some.u.now.result) c.args.found.now c.passes.new.found) c.as_slice.ensures c.passes.ensures)

pub returns-in-None : goal.returns-in-None
returns-in-None c =
    found-missing (λ (o : Option CodeUnit). of_some o (λ (u : CodeUnit). below_each c.args.operands.now u.params & has_all (option_copied c.args.given) u.result)) c.args.unit _ _ c.in-None.is c.refuse.ensures
