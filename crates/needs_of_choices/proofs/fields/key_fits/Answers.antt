use Rattle.std.proofs.Common.{ℕ, Ok, Option, Some, refl, subst, sym}
use Rattle.bal_base.specs.declared.text.Text.{Text}
use Rattle.checks.specs.Checks.{Comes}
use Rattle.check_words.specs.Constructors.{fits_keys}
use Rattle.check_words.proofs.Coming.{given}
use Rattle.check_work.specs.Views.{state_of}
use Rattle.needs_of_choices.proofs.fields.key_fits.Goals as goal

pub returns-in-Some-key-clause-comes : goal.returns-in-Some-key-clause-comes
returns-in-Some-key-clause-comes g c =
    let s = state_of (g.T.Types.atoms c.args.types.now) c.args.work.now in
    subst (λ (o : Option ℕ). Comes (fits_keys g.T.Types.passes o c.args.key.now c.args.at) s (Ok tt) s) (sym c.in-Some.is)
    (subst (λ (k : Option Text). Comes (fits_keys g.T.Types.passes (Some c.in-Some.atom) k c.args.at) s (Ok tt) s) (sym c.in-Some-key.is) (given _ s tt refl))

pub returns-in-None-key-clause-comes : goal.returns-in-None-key-clause-comes
returns-in-None-key-clause-comes g c =
    let s = state_of (g.T.Types.atoms c.args.types.now) c.args.work.now in
    let new = state_of (g.T.Types.atoms c.computed_key_fits.new.types) c.args.work.now in
    subst (λ (o : Option ℕ). Comes (fits_keys g.T.Types.passes o c.args.key.now c.args.at) s c.computed_key_fits.result new) (sym c.in-Some.is)
    (subst (λ (k : Option Text). Comes (fits_keys g.T.Types.passes (Some c.in-Some.atom) k c.args.at) s c.computed_key_fits.result new) (sym c.in-None-key.is)
    c.computed_key_fits.ensures.comes)

pub returns-in-None-clause-comes : goal.returns-in-None-clause-comes
returns-in-None-clause-comes g c =
    let s = state_of (g.T.Types.atoms c.args.types.now) c.args.work.now in
    subst (λ (o : Option ℕ). Comes (fits_keys g.T.Types.passes o c.args.key.now c.args.at) s (Ok tt) s) (sym c.in-None.is) (given _ s tt refl)
