use Rattle.std.proofs.Common.{◌∙◌, IfSome, Option, ap, subst, sym}
use Rattle.type_model.specs.declared.basic.SemType.{SemType}
use Rattle.type_model.specs.declared.basic.Ty.{Ty}
use Rattle.type_model.specs.Defined.{IsDefined}
use Rattle.typed_tree.specs.SharedTypes.{Shared}
use Rattle.needs_of_choices.specs.ByKeys.{IsAsked}
use Rattle.needs_of_choices.proofs.FieldByField.{asked-copy, unasked}
use Rattle.needs_of_choices.proofs.fields.is_of_asked.Goals as goal

pub require_below-requires-clause-left : goal.require_below-requires-clause-left
require_below-requires-clause-left g c =
    subst (λ (v : Ty). IsDefined (g.T.Types.atoms c.args.types.now) v.sem) (sym (c.deref.ensures ∙ ap (λ (t : Shared). t.value) c.ty.ensures)) c.requires.value.0

pub require_below-requires-clause-right : goal.require_below-requires-clause-right
require_below-requires-clause-right g c =
    subst (λ (o : Option SemType). IfSome o (IsDefined (g.T.Types.atoms c.args.types.now))) c.in-Some.is c.requires.asked

pub returns-in-Some-clause-comes : goal.returns-in-Some-clause-comes
returns-in-Some-clause-comes g c = λ key f h.
    let env = g.T.Types.atoms c.args.types.now in
    let a = subst (IsAsked env key f) c.in-Some.is h in
    asked-copy g.T.Types.passes key c.args.value.now c.args.at f env c.in-Some.t _ _ c.require_below.result (c.deref.ensures ∙ ap (λ (t : Shared). t.value) c.ty.ensures) a.0 a.1
    c.require_below.ensures.comes

pub returns-in-None-clause-comes : goal.returns-in-None-clause-comes
returns-in-None-clause-comes g c = λ key f h.
    let env = g.T.Types.atoms c.args.types.now in
    unasked g.T.Types.passes key c.args.value.now c.args.at f env (subst (IsAsked env key f) c.in-None.is h)
