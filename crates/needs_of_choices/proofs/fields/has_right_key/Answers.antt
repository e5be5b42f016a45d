use Rattle.std.proofs.Common.{List, Option, subst}
use Rattle.bal_base.specs.declared.text.Text.{Text}
use Rattle.check_words.specs.Constructors.{IsLastKey}
use Rattle.check_words.specs.State.{IsLast}
use Rattle.check_words.proofs.Coming.{given, next}
use Rattle.check_work.specs.Views.{constructor_of, state_of}
use Rattle.needs_of_choices.proofs.fields.has_right_key.Goals as goal

pub returns-in-Some-clause-comes : goal.returns-in-Some-clause-comes
returns-in-Some-clause-comes g c =
    let s = state_of (g.T.Types.atoms c.args.types.now) c.args.work.now in
    let last = subst (λ (ks : List (Option Text)). IsLast ks c.in-Some.key.now) c.as_slice.ensures.value c.in-Some.ensures in
    next _ _ _ _ _ c.in-Some.key.now s (given (λ t key. IsLastKey (constructor_of c.args.c.now) key) s c.in-Some.key.now (record { before = last.kept; is = last.is })) c.key_fits.ensures.comes
