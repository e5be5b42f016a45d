use Rattle.std.proofs.Common.{◌∙◌, IfOk, ap, length, subst, sym}
use Rattle.type_model.specs.Defined.{IsDefined}
use Rattle.check_words.specs.Stands.{SharedBelow}
use Rattle.check_kinds.specs.Over.{ComesOver}
use Rattle.needs_of_actions.specs.Futures.{gives_given}
use Rattle.needs_of_actions.proofs.Futures.{given-over, given-refused, member-defined}
use Rattle.needs_of_actions.proofs.Lifting.{lifted-ok}
use Rattle.needs_of_actions.proofs.awaiting.given_by.Goals as goal

pub with_errors-requires : goal.with_errors-requires
with_errors-requires g c =
    subst (λ env. IsDefined env c.in-Ok.results) (sym c.in-Ok.ensures.atoms) (member-defined g.T.Types.passes c.args.at c.deref.result.now.sem _ (g.T.Types.atoms c.args.types.now) _ c.in-Ok.results c.in-Ok.ensures.comes)

pub returns-in-Ok-clause-below : goal.returns-in-Ok-clause-below
returns-in-Ok-clause-below g c =
    subst (λ env. IfOk c.lift.result (SharedBelow (length env))) c.in-Ok.ensures.atoms
    (subst (λ r. IfOk r (SharedBelow (length (g.T.Types.atoms c.member.new.types)))) (sym c.lift.ensures) (lifted-ok _ c.with_errors.result c.with_errors.ensures.below))

pub returns-in-Ok-clause-comes : goal.returns-in-Ok-clause-comes
returns-in-Ok-clause-comes g c =
    subst (λ new. ComesOver (gives_given g.T.Types.passes c.args.part.now c.args.at) (g.T.Types.atoms c.args.types.now) c.lift.result new) (sym c.with_errors.ensures.atoms)
    (given-over g.T.Types.passes c.args.at c.args.part.now c.deref.result.now (c.deref.ensures ∙ ap (λ t. t.value) c.ty.ensures) (g.T.Types.atoms c.args.types.now) (g.T.Types.atoms c.member.new.types) c.in-Ok.results
    c.with_errors.result c.lift.result c.lift.ensures c.in-Ok.ensures.comes c.in-Ok.ensures.atoms c.with_errors.ensures.is)

pub returns-in-Err-clause-comes : goal.returns-in-Err-clause-comes
returns-in-Err-clause-comes g c =
    given-refused g.T.Types.passes c.args.at c.args.part.now c.deref.result.now (c.deref.ensures ∙ ap (λ t. t.value) c.ty.ensures) (g.T.Types.atoms c.args.types.now) _ c.in-Err.stop c.in-Err.ensures.comes
