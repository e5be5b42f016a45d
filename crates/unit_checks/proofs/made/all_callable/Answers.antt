use Rattle.std.proofs.Common.{◌↔◌, Bool, IsTrue, subst, sym}
use Rattle.stack_code.specs.Tables.{IsCallable}
use Rattle.unit_checks.proofs.Valuing.{of-no, of-one}
use Rattle.unit_checks.proofs.made.all_callable.Goals as goal

pub returns-in-Some : goal.returns-in-Some
returns-in-Some c = λ code tells.
    of-one (IsCallable code) c.args.unit c.in-Some.unit c.row_of.result c.in-Some.is (subst (λ (b : Bool). IsTrue b ↔ IsCallable code c.in-Some.unit) (sym c.row_of.ensures) (tells c.in-Some.unit))

pub returns-in-None : goal.returns-in-None
returns-in-None c = λ code tells. of-no (IsCallable code) c.args.unit c.in-None.is
