use Rattle.std.proofs.Common.{None, Option, ap}
use Rattle.std.specs.Option.{option_copied}
use Rattle.operations.specs.declared.library.LibraryCall.{LibraryCall}
use Rattle.code_needs.specs.Combining.{as_many, of_some}
use Rattle.code_needs.specs.RowNeeds.{library_needs}
use Rattle.needs_of_rows.proofs.Finding.{found-as, found-then}
use Rattle.needs_of_places.proofs.Calls.{listless-is}
use Rattle.needs_of_places.proofs.library.listless.Goals as goal

pub returns : goal.returns
returns c =
    let env = c.args.site.code.now.atoms in
    found-then (as_many c.args.taken.operands.now c.args.called.count) (library_needs env c.args.called.call None c.args.taken.operands.now (option_copied c.args.taken.given)) _ _ _ c.as_many.ensures
    (found-as _ _ _ _ (ap (λ (o : Option LibraryCall). of_some o (λ k. library_needs env k None c.args.taken.operands.now (option_copied c.args.taken.given))) (listless-is c.args.called.call c.requires.listless)) (c.member_row.ensures env))
