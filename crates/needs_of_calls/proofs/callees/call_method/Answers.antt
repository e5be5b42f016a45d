use Rattle.std.proofs.Common.{◌∙◌, Err, Ok, ap, length, subst, sym}
use Rattle.typed_tree.specs.Exprs.{type_of}
use Rattle.check_words.specs.Calls.{calls_method}
use Rattle.check_words.specs.Library.{row_of}
use Rattle.check_words.specs.Sharing.{SameShared}
use Rattle.check_words.specs.Stands.{PartBelow}
use Rattle.check_words.specs.State.{IsLast}
use Rattle.check_words.proofs.Standing.{last-has, shared-below}
use Rattle.check_work.specs.Views.{state_of}
use Rattle.check_kinds.proofs.Over.{over-at}
use Rattle.seen_names.proofs.Putting.{handed-stop}
use Rattle.needs_of_calls.proofs.Naming.{method-comes, method-stops}
use Rattle.needs_of_calls.proofs.callees.call_method.Goals as goal

pub returns-in_err-call-clause-comes : goal.returns-in_err-call-clause-comes
returns-in_err-call-clause-comes g c =
    let s = state_of (g.T.Types.atoms c.args.types.now) c.args.work.now in
    let new = g.T.Types.atoms c.pick.new.types in
    let e = c.in-Some.part.now in
    let stop = c.in_err-call.field-0.0 in
    handed-stop (calls_method g.T.Types.passes c.args.method.now c.args.given.count c.args.given.at) s (state_of new c.args.work.now) stop _ c.from_residual.ensures
    (method-stops g.T.Types.passes c.args.given.at s e (subst (λ xs. IsLast xs e) c.as_slice.ensures.value c.in-Some.ensures) c.args.method.now c.args.given.count (state_of new c.args.work.now) stop
    (over-at _ s (Err stop) new (c.in_err-call.ensures.comes e (ap (λ t. t.sem) (sym (c.deref.ensures ∙ ap (λ t. t.value) c.ty.ensures))))))

pub returns-clause-stands : goal.returns-clause-stands
returns-clause-stands g c =
    let n = length (g.T.Types.atoms c.args.types.now) in
    let e = c.in-Some.part.now in
    c.open_library.ensures.stands (g.T.Types.atoms c.args.types.now)
    (shared-below n (type_of e) c.in_ok-receiver.receiver (subst (λ t. SameShared t c.in_ok-receiver.receiver) c.ty-2.ensures c.in_ok-receiver.ensures)
    (last-has (PartBelow n) _ e (subst (λ xs. IsLast xs e) c.as_slice.ensures.value c.in-Some.ensures) c.requires.stands.found)) c.requires.stands

pub returns-clause-comes : goal.returns-clause-comes
returns-clause-comes g c =
    let s = state_of (g.T.Types.atoms c.args.types.now) c.args.work.now in
    let new = g.T.Types.atoms c.pick.new.types in
    let e = c.in-Some.part.now in
    method-comes g.T.Types.passes c.args.given.at s e (subst (λ xs. IsLast xs e) c.as_slice.ensures.value c.in-Some.ensures) c.args.method.now c.args.given.count (row_of c.in_ok-call.call)
    c.in_ok-receiver.receiver (state_of new c.args.work.now) _ c.open_library.result
    (over-at _ s (Ok (row_of c.in_ok-call.call)) new (c.in_ok-call.ensures.comes e (ap (λ t. t.sem) (sym (c.deref.ensures ∙ ap (λ t. t.value) c.ty.ensures)))))
    (subst (λ t. SameShared t c.in_ok-receiver.receiver) c.ty-2.ensures c.in_ok-receiver.ensures) (c.open_library.ensures.comes new)
