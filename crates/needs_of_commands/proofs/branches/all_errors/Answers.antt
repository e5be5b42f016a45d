use Rattle.std.proofs.Common.{Option}
use Rattle.type_model.specs.declared.basic.SemType.{SemType}
use Rattle.code_needs.specs.Combining.{◌&◌, need, of_some}
use Rattle.code_needs.specs.declared.kind.Kind.TheVariants.{Errors}
use Rattle.code_needs.specs.Needs.{Has, Within}
use Rattle.needs_of_rows.proofs.Finding.{found-missing, found-then, found-there}
use Rattle.needs_of_commands.proofs.branches.all_errors.Goals as goal

pub returns-in-Some : goal.returns-in-Some
returns-in-Some c =
    found-there (λ (o : Option SemType). of_some o (λ t. need (Within t Errors) & need (Has t Errors))) c.args.error c.in-Some.t _ _ c.in-Some.is (found-then _ _ _ _ _ c.within.ensures c.has_kind.ensures)

pub returns-in-None : goal.returns-in-None
returns-in-None c = found-missing (λ (o : Option SemType). of_some o (λ t. need (Within t Errors) & need (Has t Errors))) c.args.error _ _ c.in-None.is c.refuse.ensures
