use Rattle.std.proofs.Common.{Err, Ok, subst}
use Rattle.bal_base.specs.declared.fault.FaultCode.TheVariants.{Arity}
use Rattle.checks.specs.Checks.{Comes}
use Rattle.check_words.specs.Calls.{calls_library}
use Rattle.check_words.specs.Library.{row_of}
use Rattle.check_words.specs.State.{OfLibrary}
use Rattle.check_words.specs.Words.{unless}
use Rattle.check_work.specs.Views.{state_of}
use Rattle.seen_names.proofs.Putting.{handed-stop}
use Rattle.needs_of_calls.proofs.Calling.{opened-if, refused-if}
use Rattle.needs_of_calls.proofs.callees.open_library.Goals as goal

pub returns-in_err-require-clause-comes : goal.returns-in_err-require-clause-comes
returns-in_err-require-clause-comes c = λ env.
    let s = state_of env c.args.work.now in
    handed-stop (calls_library (row_of c.args.call) c.args.receiver c.args.count c.args.at) s s c.in_err-require.field-0.0 _ c.from_residual.ensures
    (refused-if _ Arity c.args.at (OfLibrary (row_of c.args.call) c.args.receiver) s c.in_err-require.field-0.0
    (subst (λ b. Comes (unless b Arity c.args.at) s (Err c.in_err-require.field-0.0) s) c.takes_so_many.ensures (c.in_err-require.ensures s)))

pub returns-clause-comes : goal.returns-clause-comes
returns-clause-comes c = λ env.
    let s = state_of env c.args.work.now in
    opened-if _ Arity c.args.at (OfLibrary (row_of c.args.call) c.args.receiver) s _ (subst (λ b. Comes (unless b Arity c.args.at) s (Ok tt) s) c.takes_so_many.ensures (c.in_ok-require.ensures s))
    c.in_ok-open.ensures
