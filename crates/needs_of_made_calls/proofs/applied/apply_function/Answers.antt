use Rattle.std.proofs.Common.{◌∙◌, ap, subst, sym}
use Rattle.descriptors.proofs.Yielding.{kept-then}
use Rattle.type_model.specs.Defined.{IsDefined}
use Rattle.needs_of_made_calls.proofs.Answering.{kept-same}
use Rattle.needs_of_made_calls.proofs.Applying.{function-applied, function-stops, result-defined}
use Rattle.needs_of_made_calls.proofs.applied.apply_function.Goals as goal

pub apply_to-requires-clause-defined : goal.apply_to-requires-clause-defined
apply_to-requires-clause-defined g c =
    c.add_arguments.ensures.kept.defined c.deref.result.now.sem
    (subst (λ t. IsDefined (g.T.Types.atoms c.args.types.now) t.sem) (sym (c.deref.ensures ∙ ap (λ t. t.value) c.ty.ensures)) c.requires.f.0)

pub returns-in-Ok-clause-kept : goal.returns-in-Ok-clause-kept
returns-in-Ok-clause-kept g c = kept-then _ _ _ c.add_arguments.ensures.kept (kept-same _ _ c.apply_to.ensures.atoms)

pub returns-in-Ok-clause-defined : goal.returns-in-Ok-clause-defined
returns-in-Ok-clause-defined g c = result-defined g.T.Types.passes _ _ _ _ _ c.apply_to.result c.apply_to.ensures.comes

pub returns-in-Ok-clause-comes : goal.returns-in-Ok-clause-comes
returns-in-Ok-clause-comes g c =
    function-applied g.T.Types.passes c.args.f.now c.args.args.now c.args.at _ _ c.deref.result.now.sem (ap (λ t. t.sem) (c.deref.ensures ∙ ap (λ t. t.value) c.ty.ensures)) _ c.in-Ok.atom
    c.apply_to.result c.in-Ok.ensures.comes c.apply_to.ensures.comes

pub returns-in-Err-clause-comes : goal.returns-in-Err-clause-comes
returns-in-Err-clause-comes g c = function-stops g.T.Types.passes c.args.f.now c.args.args.now c.args.at _ _ c.in-Err.stop c.in-Err.ensures.comes
