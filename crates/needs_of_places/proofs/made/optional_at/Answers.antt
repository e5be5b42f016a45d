use Rattle.std.proofs.Common.{Option}
use Rattle.std.specs.Option.{option_copied}
use Rattle.operations.specs.declared.operation.Constant.{Constant}
use Rattle.operations.specs.declared.operation.Operation.TheVariants as op
use Rattle.stack_code.specs.Commands.{of_name}
use Rattle.needs_of_places.specs.Sites.{row_of}
use Rattle.needs_of_rows.proofs.Finding.{found-missing, found-there}
use Rattle.needs_of_places.proofs.made.optional_at.Goals as goal

pub returns-in-Some : goal.returns-in-Some
returns-in-Some c = λ env place. found-there (λ (o : Option Constant). row_of env place c.args.taken.operands.now (option_copied c.args.taken.given) (of_name op.GetOptional o)) c.args.name c.in-Some.name _ _ c.in-Some.is (c.optional_row.ensures env place)

pub returns-in-None : goal.returns-in-None
returns-in-None c = λ env place. found-missing (λ (o : Option Constant). row_of env place c.args.taken.operands.now (option_copied c.args.taken.given) (of_name op.GetOptional o)) c.args.name _ _ c.in-None.is c.refuse.ensures
