use Rattle.std.proofs.Common.{Option}
use Rattle.std.specs.Option.{option_copied}
use Rattle.operations.specs.declared.operation.Constant.{Constant}
use Rattle.code_needs.specs.Combining.{◌&◌, need, none, of_some}
use Rattle.code_needs.specs.Needs.{HasConstant}
use Rattle.needs_of_rows.proofs.Finding.{found-missing, found-there}
use Rattle.needs_of_places.proofs.named.constant_row.Goals as goal

pub returns-in-Some : goal.returns-in-Some
returns-in-Some c = found-there (λ (o : Option Constant). of_some o (λ k. none c.args.taken.operands.now & of_some (option_copied c.args.taken.given) (λ r. need (HasConstant r k)))) c.args.c c.in-Some.c _ _ c.in-Some.is c.constant.ensures

pub returns-in-None : goal.returns-in-None
returns-in-None c = found-missing (λ (o : Option Constant). of_some o (λ k. none c.args.taken.operands.now & of_some (option_copied c.args.taken.given) (λ r. need (HasConstant r k)))) c.args.c _ _ c.in-None.is c.refuse.ensures
