use Rattle.std.proofs.Common.{◌∙◌, ℕ, IfOk, Option, ap, length, subst, sym}
use Rattle.descriptors.specs.Described.{IsCopy}
use Rattle.type_model.specs.declared.basic.Ty.{Ty}
use Rattle.typed_tree.specs.Exprs.{type_of}
use Rattle.typed_tree.specs.SharedTypes.{Shared}
use Rattle.check_kinds.specs.Over.{ComesOver}
use Rattle.needs_of_structures.specs.Fitting.{added_copy}
use Rattle.needs_of_structures.proofs.Asking.{copied-given, lifted-below}
use Rattle.needs_of_structures.proofs.members.added.Goals as goal

pub returns-in-Some-clause-below : goal.returns-in-Some-clause-below
returns-in-Some-clause-below g c =
    lifted-below (length (g.T.Types.atoms c.args.types.now)) (type_of c.args.e.now).value c.copy.result c.lift.result c.lift.ensures
    (subst (λ (v : Ty). IfOk c.copy.result (IsCopy v)) (c.deref.ensures ∙ ap (λ (t : Shared). t.value) c.ty.ensures) c.copy.ensures) c.requires.part

pub returns-in-Some-clause-comes : goal.returns-in-Some-clause-comes
returns-in-Some-clause-comes g c =
    subst (λ (o : Option ℕ). ComesOver (added_copy g.T.Types.passes o c.args.e.now c.args.at) (g.T.Types.atoms c.args.types.now) c.lift.result (g.T.Types.atoms c.args.types.now)) (sym c.in-Some.is)
    (copied-given (type_of c.args.e.now) _ c.copy.result c.lift.result c.lift.ensures
    (subst (λ (v : Ty). IfOk c.copy.result (IsCopy v)) (c.deref.ensures ∙ ap (λ (t : Shared). t.value) c.ty.ensures) c.copy.ensures))

pub returns-in-None-clause-comes : goal.returns-in-None-clause-comes
returns-in-None-clause-comes g c =
    subst (λ (o : Option ℕ). ComesOver (added_copy g.T.Types.passes o c.args.e.now c.args.at) (g.T.Types.atoms c.args.types.now) c.widened_copy.result (g.T.Types.atoms c.widened_copy.new.types)) (sym c.in-None.is)
    c.widened_copy.ensures.comes
