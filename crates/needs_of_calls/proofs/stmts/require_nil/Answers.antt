use Rattle.std.proofs.Common.{◌∙◌, Err, Ok, ap, subst}
use Rattle.expr_needs.specs.declared.kind.Kind.TheVariants as kind
use Rattle.check_kinds.specs.Over.{ComesOver}
use Rattle.check_kinds.proofs.Over.{over-at}
use Rattle.check_words.specs.State.{IsLast}
use Rattle.check_words.specs.Statements.{is_ignorable}
use Rattle.check_words.specs.Words.{OfKind, whether_within}
use Rattle.check_work.specs.Views.{state_of}
use Rattle.seen_names.proofs.Putting.{handed-stop}
use Rattle.needs_of_calls.proofs.Performing.{ignorable-so, ignorable-stops}
use Rattle.needs_of_calls.proofs.stmts.require_nil.Goals as goal

pub returns-in_err-so-clause-comes : goal.returns-in_err-so-clause-comes
returns-in_err-so-clause-comes g c =
    let old = g.T.Types.atoms c.args.types.now in
    let new = g.T.Types.atoms c.is_of_kind.new.types in
    let s = state_of old c.args.work.now in
    let e = c.in-Some.part.now in
    let stop = c.in_err-so.field-0.0 in
    handed-stop (is_ignorable g.T.Types.passes c.args.at) s (state_of new c.args.work.now) stop _ c.from_residual.ensures
    (ignorable-stops g.T.Types.passes c.args.at s e (subst (λ xs. IsLast xs e) c.as_slice.ensures.value c.in-Some.ensures) (state_of new c.args.work.now) stop
    (over-at _ s (Err stop) new
    (subst (λ t. ComesOver (whether_within g.T.Types.passes (OfKind kind.Nothing) t.sem c.args.at) old (Err stop) new) (c.deref.ensures ∙ ap (λ t. t.value) c.ty.ensures)
    c.in_err-so.ensures.comes)))

pub returns-clause-comes : goal.returns-clause-comes
returns-clause-comes g c =
    let old = g.T.Types.atoms c.args.types.now in
    let new = g.T.Types.atoms c.is_of_kind.new.types in
    let s = state_of old c.args.work.now in
    let e = c.in-Some.part.now in
    ignorable-so g.T.Types.passes c.args.at s e (subst (λ xs. IsLast xs e) c.as_slice.ensures.value c.in-Some.ensures) c.in_ok-so.so (state_of new c.args.work.now)
    (state_of new c.args.work.now) c.require.result
    (over-at _ s (Ok c.in_ok-so.so) new
    (subst (λ t. ComesOver (whether_within g.T.Types.passes (OfKind kind.Nothing) t.sem c.args.at) old (Ok c.in_ok-so.so) new) (c.deref.ensures ∙ ap (λ t. t.value) c.ty.ensures)
    c.in_ok-so.ensures.comes))
    (c.require.ensures (state_of new c.args.work.now))
