use Rattle.std.proofs.Common.{Bool, subst, sym}
use Rattle.code_needs.specs.RowNeeds.{may_stand}
use Rattle.needs_of_rows.specs.Finding.{Finds}
use Rattle.needs_of_rows.proofs.Finding.{found-nothing}
use Rattle.needs_of_rows.proofs.lists.may_stand.Goals as goal

pub returns-in-true : goal.returns-in-true
returns-in-true c = subst (λ (b : Bool). Finds (may_stand b c.args.t.now) c.args.found.now c.within.new.self) (sym c.in-true.is) c.within.ensures

pub returns-in-false : goal.returns-in-false
returns-in-false c = subst (λ (b : Bool). Finds (may_stand b c.args.t.now) c.args.found.now c.args.found.now) (sym c.in-false.is) (found-nothing _)
