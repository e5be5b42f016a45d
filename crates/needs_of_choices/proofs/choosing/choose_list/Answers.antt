use Rattle.std.proofs.Common.{Err, map}
use Rattle.checks.proofs.Steps.{stops}
use Rattle.expr_needs.specs.ExprTable.{read_expr}
use Rattle.check_words.specs.Constructors.{ListFits}
use Rattle.check_work.specs.Views.{state_of}
use Rattle.needs_of_choices.specs.Choosing.{chosen}
use Rattle.needs_of_structures.proofs.Answering.{kept-same, stands-over}
use Rattle.needs_of_choices.proofs.Chosen.{chosen-below, chosen-opens, opens}
use Rattle.needs_of_structures.proofs.Made.{lifted-on, then-lifted}
use Rattle.needs_of_choices.proofs.choosing.choose_list.Goals as goal

pub returns-in-Ok-clause-kept : goal.returns-in-Ok-clause-kept
returns-in-Ok-clause-kept g c = kept-same _ _ c.list_chosen.ensures.atoms

pub returns-in-Err-clause-kept : goal.returns-in-Err-clause-kept
returns-in-Err-clause-kept g c = kept-same _ _ c.list_chosen.ensures.atoms

pub returns-in-Ok-clause-stands : goal.returns-in-Ok-clause-stands
returns-in-Ok-clause-stands g c =
    let old = g.T.Types.atoms c.args.types.now in
    let env = g.T.Types.atoms c.list_chosen.new.types in
    lifted-on _ c.open_chosen.result c.lift.result c.lift.ensures
    (c.open_chosen.ensures.stands env (chosen-below c.in-Ok.chosen.0 old env c.list_chosen.ensures.atoms c.in-Ok.ensures.below) (stands-over (state_of old c.args.work.now) env c.list_chosen.ensures.atoms c.requires))

pub returns-in-Ok-clause-comes : goal.returns-in-Ok-clause-comes
returns-in-Ok-clause-comes g c =
    let s = state_of (g.T.Types.atoms c.args.types.now) c.args.work.now in
    let env = g.T.Types.atoms c.list_chosen.new.types in
    chosen-opens g.T.Types.passes (λ u. u.lists) (ListFits (map (λ i. i.literal) (map read_expr c.args.items.now))) c.args.at c.args.expected s c.lift.result _
    (then-lifted (chosen g.T.Types.passes (λ u. u.lists) (ListFits (map (λ i. i.literal) (map read_expr c.args.items.now))) c.args.expected c.args.at) opens s c.in-Ok.chosen _ _ c.open_chosen.result c.lift.result c.lift.ensures c.in-Ok.ensures.comes (c.open_chosen.ensures.comes env))

pub returns-in-Err-clause-comes : goal.returns-in-Err-clause-comes
returns-in-Err-clause-comes g c =
    let s = state_of (g.T.Types.atoms c.args.types.now) c.args.work.now in
    chosen-opens g.T.Types.passes (λ u. u.lists) (ListFits (map (λ i. i.literal) (map read_expr c.args.items.now))) c.args.at c.args.expected s (Err c.in-Err.stop) _
    (stops (chosen g.T.Types.passes (λ u. u.lists) (ListFits (map (λ i. i.literal) (map read_expr c.args.items.now))) c.args.expected c.args.at) opens s _ c.in-Err.stop c.in-Err.ensures.comes)
