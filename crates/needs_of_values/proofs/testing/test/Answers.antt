use Rattle.std.proofs.Common.{length, map, refl}
use Rattle.std.specs.Option.{option_copied}
use Rattle.check_words.proofs.Flowing.{flow-now}
use Rattle.check_words.proofs.Standing.{unit-has}
use Rattle.check_work.specs.Views.{state_of, unit_of}
use Rattle.check_work.proofs.Noting.{at-hand}
use Rattle.needs_of_values.proofs.Asked.{handed-on}
use Rattle.needs_of_values.proofs.Tested.{last-is, tests-come, tests-stand, tests-stop, unwanted, want-below}
use Rattle.needs_of_values.proofs.testing.test.Goals as goal

pub ways_of_test-requires-clause-flow : goal.ways_of_test-requires-clause-flow
ways_of_test-requires-clause-flow g c =
    let env = g.T.Types.atoms c.args.types.now in
    (unit-has (length env) _ (map unit_of c.args.work.now.around.items) (unit_of c.in_ok-unit.unit.now) (at-hand _ _ _ c.in_ok-unit.ensures) c.requires.stands.units).flow

pub ways_of_test-requires-clause-wanted : goal.ways_of_test-requires-clause-wanted
ways_of_test-requires-clause-wanted g c =
    let wanted = last-is _ _ _ _ c.in_ok-t.ensures c.in_ok-want.ensures in
    want-below g.T.Types.passes c.args.at (option_copied c.args.name) (state_of (g.T.Types.atoms c.args.types.now) c.args.work.now) _ c.in_ok-t.t wanted c.requires.stands

pub returns-clause-stands : goal.returns-clause-stands
returns-clause-stands g c =
    let env = g.T.Types.atoms c.args.types.now in
    let wanted = last-is _ _ _ _ c.in_ok-t.ensures c.in_ok-want.ensures in
    tests-stand g.T.Types.passes c.args.at (option_copied c.args.name) (state_of env c.args.work.now) _ c.in_ok-t.t wanted c.requires.stands _ _ _ c.in_ok-ways.ensures.below c.in_ok-gather.ensures
    (c.in_ok-ty.ensures.defined env c.requires.own)

pub returns-clause-comes : goal.returns-clause-comes
returns-clause-comes g c =
    let env = g.T.Types.atoms c.args.types.now in
    let s = state_of env c.args.work.now in
    let wanted = last-is _ _ _ _ c.in_ok-t.ensures c.in_ok-want.ensures in
    let there = unwanted g.T.Types.passes c.args.at (option_copied c.args.name) s _ c.in_ok-t.t wanted in
    tests-come g.T.Types.passes c.args.at (option_copied c.args.name) s _ c.in_ok-t.t wanted c.in_ok-ways.ways _ _
    (c.in_ok-ways.ensures.comes there refl (flow-now there (map unit_of c.args.work.now.around.items) (unit_of c.in_ok-unit.unit.now) (at-hand _ _ _ c.in_ok-unit.ensures)))
    c.in_ok-gather.ensures (c.in_ok-ty.ensures.is env c.requires.own)

pub returns-in_err-ways-clause-comes : goal.returns-in_err-ways-clause-comes
returns-in_err-ways-clause-comes g c =
    let env = g.T.Types.atoms c.args.types.now in
    let s = state_of env c.args.work.now in
    let wanted = last-is _ _ _ _ c.in_ok-t.ensures c.in_ok-want.ensures in
    let there = unwanted g.T.Types.passes c.args.at (option_copied c.args.name) s _ c.in_ok-t.t wanted in
    handed-on _ s there _ _ c.from_residual-in_err-ways.ensures
    (tests-stop g.T.Types.passes c.args.at (option_copied c.args.name) s _ c.in_ok-t.t wanted _
    (c.in_err-ways.ensures.comes there refl (flow-now there (map unit_of c.args.work.now.around.items) (unit_of c.in_ok-unit.unit.now) (at-hand _ _ _ c.in_ok-unit.ensures))))
