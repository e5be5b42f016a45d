use Rattle.std.proofs.Common.{◌≡◌, Err, None, Ok, Some, length, subst, sym}
use Rattle.std.proofs.lemmas.List.Elements.{All-nil}
use Rattle.checks.specs.Questions.{adds}
use Rattle.descriptors.specs.Described.{plain}
use Rattle.type_model.specs.declared.basic.SemType.{Atom}
use Rattle.type_model.specs.Defined.{DefBelow}
use Rattle.type_model.specs.Places.{HasDistinctFields}
use Rattle.typed_tree.specs.declared.form.StrictForm.TheVariants as form
use Rattle.check_kinds.proofs.Over.{over-asks}
use Rattle.check_words.specs.Words.{asking, makes_strict}
use Rattle.check_words.proofs.Growing.{stands-grows}
use Rattle.check_work.specs.Views.{state_of}
use Rattle.needs_of_made_calls.proofs.Answering.{lifted-on, not-made, then-made}
use Rattle.needs_of_made_calls.proofs.Giving.{AreLists, list-added}
use Rattle.needs_of_made_calls.proofs.library.give_list.Goals as goal

pub add_one-requires-clause-named : goal.add_one-requires-clause-named
add_one-requires-clause-named g c = subst (DefBelow (length (g.T.Types.atoms c.args.types.now))) (sym c.list_of.ensures) (All-nil _, c.requires.below)

pub add_one-requires-clause-distinct : goal.add_one-requires-clause-distinct
add_one-requires-clause-distinct g c = subst HasDistinctFields (sym c.list_of.ensures) tt

pub returns-in-Ok-clause-stands : goal.returns-in-Ok-clause-stands
returns-in-Ok-clause-stands g c =
    let env = g.T.Types.atoms c.add_one.new.types in
    lifted-on c.give_new.result c.lift.result c.lift.ensures _
    (c.give_new.ensures.stands env c.in-Ok.ensures.there (stands-grows (state_of (g.T.Types.atoms c.args.types.now) c.args.work.now) env c.add_one.ensures.kept c.requires.stands))

pub returns-in-Ok-clause-comes : goal.returns-in-Ok-clause-comes
returns-in-Ok-clause-comes g c =
    let old = g.T.Types.atoms c.args.types.now in
    let env = g.T.Types.atoms c.add_one.new.types in
    then-made c.give_new.result c.lift.result c.lift.ensures (asking (adds (AreLists (λ e t. t ≡ c.args.ty)) (Some c.args.what.at)))
    (λ atom. makes_strict c.args.what.count (form.Library c.args.what.call (Some atom) None) (λ e t. t ≡ plain (Atom atom)) c.args.what.at) (state_of old c.args.work.now) env c.in-Ok.atom _
    (over-asks (adds (AreLists (λ e t. t ≡ c.args.ty)) (Some c.args.what.at)) old env (Ok c.in-Ok.atom)
    (list-added c.args.ty c.args.what.at c.list_of.result old env (Ok c.in-Ok.atom) c.list_of.ensures c.in-Ok.ensures.comes)) (c.give_new.ensures.comes env)

pub returns-in-Err-clause-comes : goal.returns-in-Err-clause-comes
returns-in-Err-clause-comes g c =
    let old = g.T.Types.atoms c.args.types.now in
    let env = g.T.Types.atoms c.add_one.new.types in
    not-made (asking (adds (AreLists (λ e t. t ≡ c.args.ty)) (Some c.args.what.at)))
    (λ atom. makes_strict c.args.what.count (form.Library c.args.what.call (Some atom) None) (λ e t. t ≡ plain (Atom atom)) c.args.what.at) (state_of old c.args.work.now) env c.in-Err.stop
    (over-asks (adds (AreLists (λ e t. t ≡ c.args.ty)) (Some c.args.what.at)) old env (Err c.in-Err.stop)
    (list-added c.args.ty c.args.what.at c.list_of.result old env (Err c.in-Err.stop) c.list_of.ensures c.in-Err.ensures.comes))
