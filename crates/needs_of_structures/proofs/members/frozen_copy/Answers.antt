use Rattle.std.proofs.Common.{◌∙◌, IfOk, ap, length, subst}
use Rattle.descriptors.specs.Described.{IsCopy}
use Rattle.type_model.specs.declared.basic.Ty.{Ty}
use Rattle.typed_tree.specs.Exprs.{type_of}
use Rattle.typed_tree.specs.SharedTypes.{Shared}
use Rattle.needs_of_structures.proofs.Asking.{frozen-copied, frozen-not, lifted-below}
use Rattle.needs_of_structures.proofs.members.frozen_copy.Goals as goal

pub returns-in-Ok-clause-below : goal.returns-in-Ok-clause-below
returns-in-Ok-clause-below g c =
    lifted-below (length (g.T.Types.atoms c.args.types.now)) (type_of c.args.e.now).value c.copy.result c.lift.result c.lift.ensures
    (subst (λ (v : Ty). IfOk c.copy.result (IsCopy v)) (c.deref.ensures ∙ ap (λ (t : Shared). t.value) c.ty.ensures) c.copy.ensures) c.requires

pub returns-in-Ok-clause-comes : goal.returns-in-Ok-clause-comes
returns-in-Ok-clause-comes g c =
    frozen-copied g.T.Types.passes c.args.e.now c.args.at _ _ c.copy.result c.lift.result c.lift.ensures c.in-Ok.ensures.comes
    (subst (λ (v : Ty). IfOk c.copy.result (IsCopy v)) (c.deref.ensures ∙ ap (λ (t : Shared). t.value) c.ty.ensures) c.copy.ensures)

pub returns-in-Err-clause-comes : goal.returns-in-Err-clause-comes
returns-in-Err-clause-comes g c = frozen-not g.T.Types.passes c.args.e.now c.args.at _ _ c.in-Err.stop c.in-Err.ensures.comes
