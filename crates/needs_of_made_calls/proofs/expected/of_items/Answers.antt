use Rattle.std.proofs.Common.{length, subst, sym}
use Rattle.type_model.specs.declared.answers.Keys.TheVariants.{AnyIndex}
use Rattle.type_model.specs.declared.basic.Ty.{Ty}
use Rattle.type_model.specs.Defined.{TyBelow}
use Rattle.check_words.specs.Members.{IsStored}
use Rattle.needs_of_made_calls.proofs.Expecting.{wants-this}
use Rattle.needs_of_made_calls.proofs.expected.of_items.Goals as goal

pub returns-clause-below : goal.returns-clause-below
returns-clause-below g c = subst (λ (u : Ty). TyBelow (length (g.T.Types.atoms c.args.types.now)) u) (sym c.in_ok-t-2.ensures.ok) c.in_ok-t.ensures.defined

pub returns-clause-wants : goal.returns-clause-wants
returns-clause-wants g c =
    let env = g.T.Types.atoms c.args.types.now in
    wants-this (IsStored c.args.container.now.value AnyIndex c.args.member) env c.in_ok-t-2.t
    (subst (λ (u : Ty). IsStored c.args.container.now.value AnyIndex c.args.member env u) (sym c.in_ok-t-2.ensures.ok)
    (subst (λ (v : Ty). IsStored v AnyIndex c.args.member env c.in_ok-t.t) c.deref.ensures c.in_ok-t.ensures.is))
