use Rattle.std.proofs.Common.{◌∙◌, ap, subst}
use Rattle.check_words.specs.State.{IsLast}
use Rattle.check_work.specs.Views.{state_of}
use Rattle.needs_of_operators.proofs.Asked.{is-of-comes}
use Rattle.needs_of_operators.proofs.questions.require_of.Goals as goal

pub returns-in-Some-clause-comes : goal.returns-in-Some-clause-comes
returns-in-Some-clause-comes g c =
    is-of-comes g.T.Types.passes (state_of (g.T.Types.atoms c.args.types.now) c.args.work.now) c.args.at c.require_kind.result c.args.kind _ c.in-Some.e.now c.deref.result.now
    (subst (λ xs. IsLast xs c.in-Some.e.now) c.as_slice.ensures.value c.in-Some.ensures) (c.deref.ensures ∙ ap (λ t. t.value) c.ty.ensures) c.require_kind.ensures.comes
