use Rattle.std.proofs.Common.{ap, arith, length}
use Rattle.checks.specs.Checks.{Comes}
use Rattle.type_model.proofs.Kept.{KeepsTypes-same}
use Rattle.check_words.specs.Calls.{makes_anonymous}
use Rattle.check_words.proofs.Growing.{stands-grows}
use Rattle.check_work.specs.Views.{state_of, unit_of}
use Rattle.needs_of_units.proofs.Answering.{handed-on, made-behind, made-so}
use Rattle.needs_of_units.proofs.Finishing.{less-wanted}
use Rattle.needs_of_functions.proofs.FunctionsMade.{anonymous-made, anonymous-stops, less-wants}
use Rattle.needs_of_functions.proofs.anonymous.make_anonymous.Goals as goal

pub own_atoms-requires : goal.own_atoms-requires
own_atoms-requires g c =
    let env = g.T.Types.atoms c.args.types.now in
    c.in_ok-unit.ensures.below env (less-wanted (state_of env c.args.work.now) c.requires _ c.drop_last.ensures)

pub returns-in_err-unit-clause-kept : goal.returns-in_err-unit-clause-kept
returns-in_err-unit-clause-kept g c = KeepsTypes-same (g.T.Types.atoms c.args.types.now)

pub returns-in_err-first-clause-comes : goal.returns-in_err-first-clause-comes
returns-in_err-first-clause-comes g c =
    let env = g.T.Types.atoms c.args.types.now in
    let new = g.T.Types.atoms c.own_atoms.new.types in
    let s = state_of env c.args.work.now in
    handed-on (λ r. Comes (makes_anonymous c.args.isolated c.args.at) s r (state_of new c.close_unit.new.work)) _ _ c.from_residual-in_err-first.ensures
    (anonymous-stops c.args.isolated c.args.at s _ (state_of env c.close_unit.new.work) (unit_of c.in_ok-unit.unit) (less-wants s _ c.drop_last.ensures) (c.in_ok-unit.ensures.comes env) new _
    c.in_err-first.ensures.comes)

pub returns-clause-stands : goal.returns-clause-stands
returns-clause-stands g c =
    let env = g.T.Types.atoms c.args.types.now in
    let new = g.T.Types.atoms c.own_atoms.new.types in
    let h = c.in_ok-unit.ensures.stands env (less-wanted (state_of env c.args.work.now) c.requires _ c.drop_last.ensures) in
    let there = c.in_ok-first.ensures.there in
    made-behind _ _ _ c.lift.ensures
    (c.make_function.ensures.stands new (omega (arith, there)) (stands-grows (state_of env c.close_unit.new.work) new c.in_ok-first.ensures.kept h))

pub returns-clause-comes : goal.returns-clause-comes
returns-clause-comes g c =
    let env = g.T.Types.atoms c.args.types.now in
    let new = g.T.Types.atoms c.own_atoms.new.types in
    let s = state_of env c.args.work.now in
    anonymous-made c.args.isolated c.args.at s _ (state_of env c.close_unit.new.work) (unit_of c.in_ok-unit.unit) (less-wants s _ c.drop_last.ensures) (c.in_ok-unit.ensures.comes env) new
    c.in_ok-first.first _ _ c.in_ok-first.ensures.comes (made-so _ _ _ _ _ c.lift.ensures (c.make_function.ensures.comes new))
