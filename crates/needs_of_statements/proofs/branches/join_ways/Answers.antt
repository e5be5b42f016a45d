use Rattle.std.proofs.Common.{map}
use Rattle.check_words.proofs.Entering.{unit-stands}
use Rattle.check_work.specs.Views.{choice_of, state_of, unit_of}
use Rattle.check_work.proofs.Noting.{at-hand, mapped-last}
use Rattle.needs_of_statements.proofs.Branching.{closed-stands, if-joins, last-choice-stands}
use Rattle.needs_of_statements.proofs.branches.join_ways.Goals as goal

pub join_here-requires-clause-first : goal.join_here-requires-clause-first
join_here-requires-clause-first g c =
    let s = state_of (g.T.Types.atoms c.args.types.now) c.args.work.now in
    (last-choice-stands s (map unit_of c.args.work.now.around.items) (unit_of c.in_ok-unit.unit) (at-hand _ _ _ c.in_ok-unit.ensures) _ (choice_of c.in_ok-choice.choice)
    (mapped-last choice_of _ _ _ c.in_ok-choice.ensures) c.requires).first

pub join_here-requires-clause-here : goal.join_here-requires-clause-here
join_here-requires-clause-here g c =
    (unit-stands (state_of (g.T.Types.atoms c.args.types.now) c.args.work.now) c.requires (map unit_of c.args.work.now.around.items) (unit_of c.in_ok-unit.unit)
    (at-hand _ _ _ c.in_ok-unit.ensures)).flow

pub returns-clause-stands : goal.returns-clause-stands
returns-clause-stands g c =
    closed-stands (state_of (g.T.Types.atoms c.args.types.now) c.args.work.now) (map unit_of c.args.work.now.around.items) (unit_of c.in_ok-unit.unit)
    (at-hand _ _ _ c.in_ok-unit.ensures) _ (choice_of c.in_ok-choice.choice) (mapped-last choice_of _ _ _ c.in_ok-choice.ensures) c.requires _ c.in_ok-join_here.ensures.below

pub returns-clause-comes : goal.returns-clause-comes
returns-clause-comes g c = λ at r end h.
    if-joins (state_of (g.T.Types.atoms c.args.types.now) c.args.work.now) (map unit_of c.args.work.now.around.items) (unit_of c.in_ok-unit.unit)
    (at-hand _ _ _ c.in_ok-unit.ensures) _ (choice_of c.in_ok-choice.choice) (mapped-last choice_of _ _ _ c.in_ok-choice.ensures) _ c.in_ok-join_here.ensures.is at r end h
