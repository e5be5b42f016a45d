use Rattle.std.proofs.Common.{◌≡◌, All, arith, length, refl, subst, suc, sym}
use Rattle.checks.proofs.Steps.{stops}
use Rattle.descriptors.proofs.Yielding.{kept-then}
use Rattle.check_words.specs.Stands.{PartBelow}
use Rattle.check_words.proofs.Coming.{next}
use Rattle.check_words.proofs.Growing.{stands-grows}
use Rattle.check_work.specs.Views.{state_of}
use Rattle.needs_of_made_calls.specs.Applied.{applies_last}
use Rattle.needs_of_made_calls.specs.Making.{starts_given}
use Rattle.needs_of_made_calls.proofs.Giving.{value-started}
use Rattle.needs_of_made_calls.proofs.started.start_value.Goals as goal

pub apply_last-requires : goal.apply_last-requires
apply_last-requires g c = subst (All (PartBelow (length (g.T.Types.atoms c.args.types.now)))) (sym c.as_slice.ensures.value) c.requires.found

pub start_given-requires-clause-stands : goal.start_given-requires-clause-stands
start_given-requires-clause-stands g c =
    stands-grows (state_of (g.T.Types.atoms c.args.types.now) c.args.work.now) (g.T.Types.atoms c.apply_last.new.types) c.apply_last.ensures.kept c.requires

pub returns-in-Ok-clause-kept : goal.returns-in-Ok-clause-kept
returns-in-Ok-clause-kept g c = kept-then _ _ _ c.apply_last.ensures.kept c.start_given.ensures.kept

pub returns-in-Ok-clause-comes : goal.returns-in-Ok-clause-comes
returns-in-Ok-clause-comes g c =
    let is : c.in-Some.count ≡ suc c.args.args = omega (arith, c.in-Some.ensures.1) in
    let s = state_of (g.T.Types.atoms c.args.types.now) c.args.work.now in
    value-started g.T.Types.passes c.args.args c.in-Some.count is c.args.at s _ c.start_given.result c.args.here
    (next (applies_last g.T.Types.passes c.in-Some.count c.args.here) (λ m. starts_given g.T.Types.passes c.in-Some.count m c.args.at) s _ c.start_given.result c.in-Ok.given
    (record s { atoms = g.T.Types.atoms c.apply_last.new.types }) (c.in-Ok.ensures.comes s refl (sym c.as_slice.ensures.value)) c.start_given.ensures.comes)

pub returns-in-Err-clause-comes : goal.returns-in-Err-clause-comes
returns-in-Err-clause-comes g c =
    let is : c.in-Some.count ≡ suc c.args.args = omega (arith, c.in-Some.ensures.1) in
    let s = state_of (g.T.Types.atoms c.args.types.now) c.args.work.now in
    value-started g.T.Types.passes c.args.args c.in-Some.count is c.args.at s _ _ c.args.here
    (stops (applies_last g.T.Types.passes c.in-Some.count c.args.here) (λ m. starts_given g.T.Types.passes c.in-Some.count m c.args.at) s _ c.in-Err.stop
    (c.in-Err.ensures.comes s refl (sym c.as_slice.ensures.value)))
