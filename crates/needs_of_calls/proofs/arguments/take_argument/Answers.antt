use Rattle.std.proofs.Common.{Err, Ok, subst}
use Rattle.check_words.specs.Calls.{is_argument}
use Rattle.check_words.specs.State.{IsLast}
use Rattle.check_work.specs.Views.{call_of, state_of}
use Rattle.check_kinds.proofs.Over.{over-at}
use Rattle.seen_names.proofs.Putting.{handed-stop}
use Rattle.needs_of_calls.proofs.Calling.{argument-stops, argument-taken, mapped-is-last}
use Rattle.needs_of_calls.proofs.arguments.take_argument.Goals as goal

pub returns-in_err-fits-clause-comes : goal.returns-in_err-fits-clause-comes
returns-in_err-fits-clause-comes g c =
    let s = state_of (g.T.Types.atoms c.args.types.now) c.args.work.now in
    let new = g.T.Types.atoms c.fits.new.types in
    let stop = c.in_err-fits.field-0.0 in
    handed-stop (is_argument g.T.Types.passes c.args.at) s (state_of new c.args.work.now) stop _ c.from_residual.ensures
    (argument-stops g.T.Types.passes c.args.at s (call_of c.in-Some._call.now) c.in-Some-last.want.now c.in-Some-last-2.part.now
    (mapped-is-last call_of _ _ (subst (λ xs. IsLast xs c.in-Some._call.now) c.as_slice.ensures.value c.in-Some.ensures))
    (subst (λ xs. IsLast xs c.in-Some-last.want.now) c.as_slice-2.ensures.value c.in-Some-last.ensures)
    (subst (λ xs. IsLast xs c.in-Some-last-2.part.now) c.as_slice-3.ensures.value c.in-Some-last-2.ensures) stop (state_of new c.args.work.now)
    (over-at _ s (Err stop) new c.in_err-fits.ensures.comes))

pub returns-clause-comes : goal.returns-clause-comes
returns-clause-comes g c =
    let s = state_of (g.T.Types.atoms c.args.types.now) c.args.work.now in
    let new = g.T.Types.atoms c.fits.new.types in
    let call = mapped-is-last call_of _ _ (subst (λ xs. IsLast xs c.in-Some._call.now) c.as_slice.ensures.value c.in-Some.ensures) in
    argument-taken g.T.Types.passes c.args.at s (call_of c.in-Some._call.now) c.in-Some-last.want.now c.in-Some-last-2.part.now call
    (subst (λ xs. IsLast xs c.in-Some-last.want.now) c.as_slice-2.ensures.value c.in-Some-last.ensures)
    (subst (λ xs. IsLast xs c.in-Some-last-2.part.now) c.as_slice-3.ensures.value c.in-Some-last-2.ensures) (state_of new c.args.work.now) _
    (over-at _ s (Ok tt) new c.in_ok-fits.ensures.comes) (c.in_ok-next_argument.ensures.comes new (call_of c.in-Some._call.now) call)
