use Rattle.checks.specs.Checks.{Comes}
use Rattle.check_words.specs.Units.{ends_function}
use Rattle.check_kinds.proofs.Over.{over-at}
use Rattle.check_work.specs.Views.{state_of, unit_of}
use Rattle.needs_of_units.proofs.Answering.{handed-on, made-behind, made-so}
use Rattle.needs_of_units.proofs.Finishing.{function-ends, function-stops}
use Rattle.needs_of_units.proofs.functions.end_function.Goals as goal

pub end_by-requires-clause-below : goal.end_by-requires-clause-below
end_by-requires-clause-below g c = (c.in_ok-unit.ensures.below (g.T.Types.atoms c.args.types.now) c.requires.stands).result

pub returns-in_err-end_by-clause-comes : goal.returns-in_err-end_by-clause-comes
returns-in_err-end_by-clause-comes g c =
    let env = g.T.Types.atoms c.args.types.now in
    handed-on (λ r. Comes (ends_function g.T.Types.passes c.args.d.now c.args.close) (state_of env c.args.work.now) r (state_of (g.T.Types.atoms c.end_by.new.types) c.close_unit.new.work)) _ _ c.from_residual-in_err-end_by.ensures
    (function-stops g.T.Types.passes c.args.close (state_of env c.args.work.now) _ (unit_of c.in_ok-unit.unit) (c.in_ok-unit.ensures.comes env) c.args.d.now _ _
    (over-at _ _ _ _ c.in_err-end_by.ensures.comes))

pub returns-clause-stands : goal.returns-clause-stands
returns-clause-stands g c =
    let env = g.T.Types.atoms c.args.types.now in
    made-behind _ _ _ c.lift.ensures (c.add_block_function.ensures.stands env (c.in_ok-unit.ensures.stands env c.requires.stands))

pub returns-clause-comes : goal.returns-clause-comes
returns-clause-comes g c =
    let env = g.T.Types.atoms c.args.types.now in
    function-ends g.T.Types.passes c.args.close (state_of env c.args.work.now) _ (unit_of c.in_ok-unit.unit) (c.in_ok-unit.ensures.comes env) c.args.d.now _ _ _
    (over-at _ _ _ _ c.in_ok-end_by.ensures.comes) (made-so _ _ _ _ _ c.lift.ensures (c.add_block_function.ensures.comes _))
