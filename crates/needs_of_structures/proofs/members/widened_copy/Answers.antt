use Rattle.std.proofs.Common.{◌∙◌, None, ap, length, subst, sym}
use Rattle.type_model.specs.Defined.{TyBelow}
use Rattle.typed_tree.specs.Exprs.{type_of}
use Rattle.typed_tree.specs.SharedTypes.{Shared}
use Rattle.check_kinds.proofs.Over.{over-out}
use Rattle.needs_of_structures.specs.Fitting.{added_copy}
use Rattle.needs_of_structures.proofs.Fitting.{wide-handle}
use Rattle.needs_of_structures.proofs.members.widened_copy.Goals as goal

pub wide-requires-clause-below : goal.wide-requires-clause-below
wide-requires-clause-below g c =
    subst (λ v. TyBelow (length (g.T.Types.atoms c.args.types.now)) v) (sym (c.in-Ok.ensures ∙ ap (λ (t : Shared). t.value) c.ty.ensures)) c.requires.part

pub returns-in-Ok-clause-comes : goal.returns-in-Ok-clause-comes
returns-in-Ok-clause-comes g c =
    wide-handle g.T.Types.passes c.in-Ok.t (type_of c.args.e.now) (c.in-Ok.ensures ∙ ap (λ (t : Shared). t.value) c.ty.ensures) c.args.at _ c.wide.result _ c.wide.ensures.comes

pub returns-in-Err-clause-comes : goal.returns-in-Err-clause-comes
returns-in-Err-clause-comes g c = over-out (added_copy g.T.Types.passes None c.args.e.now c.args.at) _ _
