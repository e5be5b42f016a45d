use Rattle.std.proofs.Common.{Option, ap}
use Rattle.std.specs.Option.{option_copied}
use Rattle.operations.specs.declared.library.LibraryCall.{LibraryCall}
use Rattle.stack_code.specs.Commands.{of_call}
use Rattle.needs_of_rows.proofs.Finding.{found-as}
use Rattle.needs_of_places.specs.Sites.{row_at}
use Rattle.needs_of_places.proofs.library.native.Goals as goal

pub returns-in-Some : goal.returns-in-Some
returns-in-Some c =
    found-as _ _ _ _ (ap (λ (o : Option LibraryCall). row_at c.args.site c.args.taken.operands.now (option_copied c.args.taken.given) (of_call c.args.native.atom c.args.native.count o)) c.in-Some.ensures) c.library_row.ensures

pub returns-in-None : goal.returns-in-None
returns-in-None c =
    found-as _ _ _ _ (ap (λ (o : Option LibraryCall). row_at c.args.site c.args.taken.operands.now (option_copied c.args.taken.given) (of_call c.args.native.atom c.args.native.count o)) c.in-None.ensures) c.refuse.ensures
