use Rattle.std.proofs.Common.{◌∙◌, ap, subst, sym}
use Rattle.type_model.specs.declared.basic.Ty.{Ty}
use Rattle.type_model.specs.Defined.{IsDefined}
use Rattle.typed_tree.specs.SharedTypes.{Shared}
use Rattle.needs_of_structures.proofs.Asking.{frozen-goes, frozen-stops}
use Rattle.needs_of_structures.proofs.members.require_frozen.Goals as goal

pub is_frozen-requires : goal.is_frozen-requires
is_frozen-requires g c =
    subst (λ (v : Ty). IsDefined (g.T.Types.atoms c.args.types.now) v.sem) (sym (c.deref.ensures ∙ ap (λ (t : Shared). t.value) c.ty.ensures)) c.requires.0

pub returns-in-Ok-clause-comes : goal.returns-in-Ok-clause-comes
returns-in-Ok-clause-comes g c =
    frozen-goes g.T.Types.passes c.args.e.now c.args.at _ (c.deref.ensures ∙ ap (λ (t : Shared). t.value) c.ty.ensures) _ _ _ c.in-Ok.so c.frozen_unless.result c.in-Ok.ensures.comes
    (c.frozen_unless.ensures _)

pub returns-in-Err-clause-comes : goal.returns-in-Err-clause-comes
returns-in-Err-clause-comes g c =
    frozen-stops g.T.Types.passes c.args.e.now c.args.at _ (c.deref.ensures ∙ ap (λ (t : Shared). t.value) c.ty.ensures) _ _ c.in-Err.stop c.in-Err.ensures.comes
