use Rattle.std.proofs.Common.{None, Some, sym}
use Rattle.check_calls.specs.declared.results.LibraryResult.TheVariants as result
use Rattle.type_model.specs.declared.answers.Keys.TheVariants.{AnyField, AnyIndex}
use Rattle.type_model.proofs.Kept.{KeepsTypes-same}
use Rattle.typed_tree.specs.declared.form.StrictForm.TheVariants as form
use Rattle.check_words.specs.Calls.{clones_readonly}
use Rattle.check_words.specs.Words.{makes_typed}
use Rattle.check_work.specs.Views.{state_of}
use Rattle.needs_of_made_calls.specs.Making.{gives_member, lists_members}
use Rattle.needs_of_made_calls.proofs.Answering.{kept-same, lifted-comes, lifted-on}
use Rattle.needs_of_made_calls.proofs.Giving.{from-receiver, told-by}
use Rattle.needs_of_made_calls.proofs.library.make_from.Goals as goal

pub returns-in-Receiver-clause-kept : goal.returns-in-Receiver-clause-kept
returns-in-Receiver-clause-kept g c = KeepsTypes-same _

pub returns-in-Receiver-clause-stands : goal.returns-in-Receiver-clause-stands
returns-in-Receiver-clause-stands g c =
    lifted-on c.give_receiver.result c.lift.result c.lift.ensures _ (c.give_receiver.ensures.stands (g.T.Types.atoms c.args.types.now) c.requires.receiver c.requires.stands)

pub returns-in-Receiver-clause-comes : goal.returns-in-Receiver-clause-comes
returns-in-Receiver-clause-comes g c =
    let s = state_of (g.T.Types.atoms c.args.types.now) c.args.work.now in
    told-by g.T.Types.passes c.args.what.call (Some c.args.receiver.now) c.args.what.at s _ c.lift.result result.Receiver c.args.what.count (sym c.in-Receiver.ensures)
    (from-receiver g.T.Types.passes c.args.receiver.now (λ t. makes_typed c.args.what.count (form.Library c.args.what.call None None) t c.args.what.at) s _ c.lift.result
    (lifted-comes c.give_receiver.result c.lift.result c.lift.ensures (makes_typed c.args.what.count (form.Library c.args.what.call None None) c.args.receiver.now c.args.what.at) s _
    (c.give_receiver.ensures.comes (g.T.Types.atoms c.args.types.now))))

pub returns-in-Frozen-clause-kept : goal.returns-in-Frozen-clause-kept
returns-in-Frozen-clause-kept g c = kept-same _ _ c.give_frozen.ensures.atoms

pub returns-in-Frozen-clause-stands : goal.returns-in-Frozen-clause-stands
returns-in-Frozen-clause-stands g c = lifted-on c.give_frozen.result c.lift-in-Frozen.result c.lift-in-Frozen.ensures _ c.give_frozen.ensures.stands

pub returns-in-Frozen-clause-comes : goal.returns-in-Frozen-clause-comes
returns-in-Frozen-clause-comes g c =
    let s = state_of (g.T.Types.atoms c.args.types.now) c.args.work.now in
    told-by g.T.Types.passes c.args.what.call (Some c.args.receiver.now) c.args.what.at s _ c.lift-in-Frozen.result result.Frozen c.args.what.count (sym c.in-Frozen.ensures)
    (from-receiver g.T.Types.passes c.args.receiver.now (λ t. clones_readonly c.args.what.count t c.args.what.at) s _ c.lift-in-Frozen.result
    (lifted-comes c.give_frozen.result c.lift-in-Frozen.result c.lift-in-Frozen.ensures (clones_readonly c.args.what.count c.args.receiver.now c.args.what.at) s _ c.give_frozen.ensures.comes))

pub returns-in-Item-clause-kept : goal.returns-in-Item-clause-kept
returns-in-Item-clause-kept g c = kept-same _ _ c.give_member.ensures.atoms

pub returns-in-Item-clause-comes : goal.returns-in-Item-clause-comes
returns-in-Item-clause-comes g c =
    let s = state_of (g.T.Types.atoms c.args.types.now) c.args.work.now in
    told-by g.T.Types.passes c.args.what.call (Some c.args.receiver.now) c.args.what.at s _ c.give_member.result result.Item c.args.what.count (sym c.in-Item.ensures)
    (from-receiver g.T.Types.passes c.args.receiver.now (λ t. gives_member g.T.Types.passes AnyIndex c.args.what.count c.args.what.call t c.args.what.at) s _ c.give_member.result
    c.give_member.ensures.comes)

pub returns-in-Field-clause-kept : goal.returns-in-Field-clause-kept
returns-in-Field-clause-kept g c = kept-same _ _ c.give_member-in-Field.ensures.atoms

pub returns-in-Field-clause-comes : goal.returns-in-Field-clause-comes
returns-in-Field-clause-comes g c =
    let s = state_of (g.T.Types.atoms c.args.types.now) c.args.work.now in
    told-by g.T.Types.passes c.args.what.call (Some c.args.receiver.now) c.args.what.at s _ c.give_member-in-Field.result result.Field c.args.what.count (sym c.in-Field.ensures)
    (from-receiver g.T.Types.passes c.args.receiver.now (λ t. gives_member g.T.Types.passes AnyField c.args.what.count c.args.what.call t c.args.what.at) s _ c.give_member-in-Field.result
    c.give_member-in-Field.ensures.comes)

pub returns-in-ListOfItems-clause-comes : goal.returns-in-ListOfItems-clause-comes
returns-in-ListOfItems-clause-comes g c =
    let s = state_of (g.T.Types.atoms c.args.types.now) c.args.work.now in
    told-by g.T.Types.passes c.args.what.call (Some c.args.receiver.now) c.args.what.at s _ c.give_items.result result.ListOfItems c.args.what.count (sym c.in-ListOfItems.ensures)
    (from-receiver g.T.Types.passes c.args.receiver.now (λ t. lists_members g.T.Types.passes c.args.what.count c.args.what.call t c.args.what.at) s _ c.give_items.result
    c.give_items.ensures.comes)
