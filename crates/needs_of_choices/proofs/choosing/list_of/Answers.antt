use Rattle.std.proofs.Common.{◌++◌, List, length, map, subst, sym}
use Rattle.type_model.specs.declared.basic.Choice.{Choice}
use Rattle.type_model.specs.Defined.{ChoicesBelow}
use Rattle.expr_needs.specs.ExprTable.{read_expr}
use Rattle.check_kinds.specs.Over.{ComesOver}
use Rattle.check_words.specs.Constructors.{ListFits, first_fit}
use Rattle.needs_of_choices.proofs.Chosen.{by-first, by-none, first-below, none-below}
use Rattle.needs_of_choices.proofs.choosing.list_of.Goals as goal

pub returns-in-true-clause-below : goal.returns-in-true-clause-below
returns-in-true-clause-below g c =
    let n = length (g.T.Types.atoms c.args.types.now) in
    first-below n c.first_list_choice.result c.from_first.result c.from_first.ensures (c.first_list_choice.ensures.below n (subst (ChoicesBelow n) (sym c.as_slice.ensures) c.requires.1))

pub returns-in-true-clause-comes : goal.returns-in-true-clause-comes
returns-in-true-clause-comes g c =
    by-first g.T.Types.passes (λ u. u.lists) (ListFits (map (λ i. i.literal) (map read_expr c.args.items.now))) c.args.t.now c.args.at _ (c.args.t.now.lists ++ c.args.t.now.maps) c.first_list_choice.result c.from_first.result
    (c.has_choices.ensures.some c.in-true.is)
    (subst (λ (cs : List Choice). ComesOver (first_fit (ListFits (map (λ i. i.literal) (map read_expr c.args.items.now))) cs c.args.at) (g.T.Types.atoms c.args.types.now) c.first_list_choice.result (g.T.Types.atoms c.args.types.now)) c.as_slice.ensures
    c.first_list_choice.ensures.comes) c.from_first.ensures

pub returns-in-false-clause-below : goal.returns-in-false-clause-below
returns-in-false-clause-below g c = none-below (length (g.T.Types.atoms c.args.types.now)) c.unchosen.result c.unchosen.ensures.below

pub returns-in-false-clause-comes : goal.returns-in-false-clause-comes
returns-in-false-clause-comes g c =
    by-none g.T.Types.passes (λ u. u.lists) (ListFits (map (λ i. i.literal) (map read_expr c.args.items.now))) c.args.t.now c.args.at _ (c.args.t.now.lists ++ c.args.t.now.maps) c.unchosen.result _ (c.has_choices.ensures.none c.in-false.is) c.unchosen.ensures.comes
