use Rattle.std.proofs.Common.{◌∙◌, Err, Ok, ap, subst}
use Rattle.expr_needs.specs.declared.kind.Kind.TheVariants as kind
use Rattle.check_kinds.specs.Over.{ComesOver}
use Rattle.check_kinds.proofs.Over.{over-at}
use Rattle.check_words.specs.State.{IsLast, OfValue}
use Rattle.check_words.specs.Words.{OfKind, is_within}
use Rattle.check_work.specs.Views.{state_of}
use Rattle.seen_names.proofs.Putting.{handed-stop}
use Rattle.needs_of_calls.specs.Callables.{calls_part}
use Rattle.needs_of_calls.proofs.Calling.{call-opened, opened-stands}
use Rattle.needs_of_calls.proofs.Naming.{part-called, part-refused}
use Rattle.needs_of_calls.proofs.named.call_last.Goals as goal

pub returns-in_err-require_kind-clause-comes : goal.returns-in_err-require_kind-clause-comes
returns-in_err-require_kind-clause-comes g c =
    let old = g.T.Types.atoms c.args.types.now in
    let new = g.T.Types.atoms c.require_kind.new.types in
    let s = state_of old c.args.work.now in
    let e = c.in-Some.part.now in
    let stop = c.in_err-require_kind.field-0.0 in
    handed-stop (calls_part g.T.Types.passes c.args.at) s (state_of new c.args.work.now) stop _ c.from_residual.ensures
    (part-refused g.T.Types.passes c.args.at s e (subst (λ xs. IsLast xs e) c.as_slice.ensures.value c.in-Some.ensures) (state_of new c.args.work.now) stop
    (over-at _ s (Err stop) new
    (subst (λ t. ComesOver (is_within g.T.Types.passes (OfKind kind.AnyFunction) t.sem c.args.at) old (Err stop) new) (c.deref.ensures ∙ ap (λ t. t.value) c.ty.ensures)
    c.in_err-require_kind.ensures.comes)))

pub returns-clause-stands : goal.returns-clause-stands
returns-clause-stands g c = opened-stands (state_of (g.T.Types.atoms c.args.types.now) c.args.work.now) c.requires.stands OfValue _ tt c.in_ok-open.ensures

pub returns-clause-comes : goal.returns-clause-comes
returns-clause-comes g c =
    let old = g.T.Types.atoms c.args.types.now in
    let new = g.T.Types.atoms c.require_kind.new.types in
    let s = state_of old c.args.work.now in
    let e = c.in-Some.part.now in
    part-called g.T.Types.passes c.args.at s e (subst (λ xs. IsLast xs e) c.as_slice.ensures.value c.in-Some.ensures) (state_of new c.args.work.now) _ (Ok tt)
    (over-at _ s (Ok tt) new
    (subst (λ t. ComesOver (is_within g.T.Types.passes (OfKind kind.AnyFunction) t.sem c.args.at) old (Ok tt) new) (c.deref.ensures ∙ ap (λ t. t.value) c.ty.ensures)
    c.in_ok-require_kind.ensures.comes))
    (call-opened (state_of new c.args.work.now) OfValue _ c.in_ok-open.ensures)
