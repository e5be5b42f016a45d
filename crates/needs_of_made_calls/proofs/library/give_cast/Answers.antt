use Rattle.std.proofs.Common.{None, Some, length}
use Rattle.operations.specs.declared.library.LibraryCall.TheVariants.{CloneReadOnly}
use Rattle.typed_tree.specs.declared.form.StrictForm.TheVariants as form
use Rattle.check_words.proofs.Standing.{shared-below}
use Rattle.check_work.specs.Views.{state_of}
use Rattle.check_work.proofs.Making.{strict-stands, typed-made}
use Rattle.needs_of_made_calls.proofs.library.give_cast.Goals as goal

pub returns-clause-stands : goal.returns-clause-stands
returns-clause-stands c = λ env below h.
    strict-stands (form.Library CloneReadOnly None (Some c.args.cast)) c.args.what.count c.in_ok-ty.ty c.args.what.at (state_of env c.args.work.now) _ c.in_ok-gather.ensures h
    (shared-below (length env) c.args.cast c.in_ok-ty.ty c.in_ok-ty.ensures below)

pub returns-clause-comes : goal.returns-clause-comes
returns-clause-comes c = λ env.
    typed-made (form.Library CloneReadOnly None (Some c.args.cast)) c.args.what.count c.in_ok-ty.ty c.args.what.at (state_of env c.args.work.now) _ c.in_ok-gather.ensures c.args.cast
    c.in_ok-ty.ensures
