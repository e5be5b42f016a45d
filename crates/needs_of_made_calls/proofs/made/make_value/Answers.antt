use Rattle.std.proofs.Common.{◌≡◌, All, arith, length, refl, subst, suc, sym}
use Rattle.checks.proofs.Steps.{stops}
use Rattle.typed_tree.specs.declared.form.Callee.TheVariants as callee
use Rattle.typed_tree.specs.declared.form.StrictForm.TheVariants as form
use Rattle.check_words.specs.Calls.{IsType}
use Rattle.check_words.specs.Stands.{PartBelow}
use Rattle.check_words.specs.Words.{makes_strict}
use Rattle.check_words.proofs.Coming.{next}
use Rattle.check_words.proofs.Growing.{stands-grows}
use Rattle.check_work.specs.Views.{state_of}
use Rattle.needs_of_made_calls.specs.Applied.{applies_last}
use Rattle.needs_of_made_calls.proofs.Answering.{lifted-comes, lifted-on}
use Rattle.needs_of_made_calls.proofs.Giving.{value-made}
use Rattle.needs_of_made_calls.proofs.made.make_value.Goals as goal

pub apply_last-requires : goal.apply_last-requires
apply_last-requires g c = subst (All (PartBelow (length (g.T.Types.atoms c.args.types.now)))) (sym c.as_slice.ensures.value) c.requires.found

pub returns-in-Ok-clause-stands : goal.returns-in-Ok-clause-stands
returns-in-Ok-clause-stands g c =
    let env = g.T.Types.atoms c.apply_last.new.types in
    lifted-on c.make_applied.result c.lift.result c.lift.ensures _
    (c.make_applied.ensures.stands env c.in-Ok.ensures.defined (stands-grows (state_of (g.T.Types.atoms c.args.types.now) c.args.work.now) env c.apply_last.ensures.kept c.requires))

pub returns-in-Ok-clause-comes : goal.returns-in-Ok-clause-comes
returns-in-Ok-clause-comes g c =
    let is : c.in-Some.count ≡ suc c.args.args = omega (arith, c.in-Some.ensures.1) in
    let s = state_of (g.T.Types.atoms c.args.types.now) c.args.work.now in
    let env = g.T.Types.atoms c.apply_last.new.types in
    value-made g.T.Types.passes c.args.args c.in-Some.count is c.args.at s _ c.lift.result
    (next (applies_last g.T.Types.passes c.in-Some.count c.args.at) (λ m. makes_strict c.in-Some.count (form.Call callee.Value) (IsType g.T.Types.passes m) c.args.at) s _ c.lift.result c.in-Ok.given
    (record s { atoms = env }) (c.in-Ok.ensures.comes s refl (sym c.as_slice.ensures.value))
    (lifted-comes c.make_applied.result c.lift.result c.lift.ensures (makes_strict c.in-Some.count (form.Call callee.Value) (IsType g.T.Types.passes c.in-Ok.given) c.args.at) (record s { atoms = env }) _
    (c.make_applied.ensures.comes env)))

pub returns-in-Err-clause-comes : goal.returns-in-Err-clause-comes
returns-in-Err-clause-comes g c =
    let is : c.in-Some.count ≡ suc c.args.args = omega (arith, c.in-Some.ensures.1) in
    let s = state_of (g.T.Types.atoms c.args.types.now) c.args.work.now in
    value-made g.T.Types.passes c.args.args c.in-Some.count is c.args.at s _ _
    (stops (applies_last g.T.Types.passes c.in-Some.count c.args.at) (λ m. makes_strict c.in-Some.count (form.Call callee.Value) (IsType g.T.Types.passes m) c.args.at) s _ c.in-Err.stop
    (c.in-Err.ensures.comes s refl (sym c.as_slice.ensures.value)))
