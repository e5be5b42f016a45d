use Rattle.std.proofs.Common.{Ok}
use Rattle.checks.specs.Checks.{Comes}
use Rattle.checks.proofs.Steps.{stops}
use Rattle.type_model.proofs.Kept.{KeepsTypes-same}
use Rattle.check_words.specs.Calls.{has_rest, is_new}
use Rattle.check_words.proofs.Growing.{stands-grows}
use Rattle.check_work.specs.Views.{state_of}
use Rattle.needs_of_units.proofs.Answering.{handed-on, made-behind, made-so}
use Rattle.needs_of_functions.proofs.Resting.{rest-added, rest-stops, shared-grows}
use Rattle.needs_of_functions.proofs.rests.add_rest.Goals as goal

pub lists_atom-requires : goal.lists_atom-requires
lists_atom-requires g c = c.in_ok-member.ensures.below (g.T.Types.atoms c.args.types.now) c.requires

pub returns-in_err-new_name-clause-kept : goal.returns-in_err-new_name-clause-kept
returns-in_err-new_name-clause-kept g c = KeepsTypes-same (g.T.Types.atoms c.args.types.now)

pub returns-in_err-new_name-clause-comes : goal.returns-in_err-new_name-clause-comes
returns-in_err-new_name-clause-comes g c =
    let env = g.T.Types.atoms c.args.types.now in
    let s = state_of env c.args.work.now in
    handed-on (λ r. Comes (has_rest c.args.name.now) s r s) _ _ c.from_residual.ensures (stops (is_new c.args.name.now) _ s s _ (c.in_err-new_name.ensures env))

pub returns-in_err-member-clause-kept : goal.returns-in_err-member-clause-kept
returns-in_err-member-clause-kept g c = KeepsTypes-same (g.T.Types.atoms c.args.types.now)

pub returns-in_err-atom-clause-comes : goal.returns-in_err-atom-clause-comes
returns-in_err-atom-clause-comes g c =
    let env = g.T.Types.atoms c.args.types.now in
    let s = state_of env c.args.work.now in
    let new = g.T.Types.atoms c.lists_atom.new.types in
    handed-on (λ r. Comes (has_rest c.args.name.now) s r (state_of new c.take_want.new.work)) _ _ c.from_residual-in_err-atom.ensures
    (rest-stops c.args.name.now s (state_of env c.take_want.new.work) c.in_ok-member.member (c.in_ok-new_name.ensures env) (c.in_ok-member.ensures.comes env) new _ c.in_err-atom.ensures.comes)

pub returns-clause-stands : goal.returns-clause-stands
returns-clause-stands g c =
    let env = g.T.Types.atoms c.args.types.now in
    let new = g.T.Types.atoms c.lists_atom.new.types in
    let kept = c.in_ok-atom.ensures.kept in
    made-behind _ _ _ c.lift.ensures
    (c.put_rest.ensures.stands new c.in_ok-atom.ensures.there (shared-grows env new c.in_ok-member.member kept (c.in_ok-member.ensures.below env c.requires))
    (stands-grows (state_of env c.take_want.new.work) new kept (c.in_ok-member.ensures.stands env c.requires)))

pub returns-clause-comes : goal.returns-clause-comes
returns-clause-comes g c =
    let env = g.T.Types.atoms c.args.types.now in
    let new = g.T.Types.atoms c.lists_atom.new.types in
    rest-added c.args.name.now (state_of env c.args.work.now) (state_of env c.take_want.new.work) c.in_ok-member.member (c.in_ok-new_name.ensures env) (c.in_ok-member.ensures.comes env) new
    c.in_ok-atom.atom _ _ c.in_ok-atom.ensures.comes (made-so _ _ _ _ _ c.lift.ensures (c.put_rest.ensures.comes new))
