use Rattle.std.proofs.Common.{◌≡◌, None, Ok, refl}
use Rattle.checks.specs.Checks.{gives}
use Rattle.check_kinds.proofs.Over.{over-on, over-some, over-stops}
use Rattle.check_words.specs.Constructors.{IsReadonlyType}
use Rattle.check_words.specs.Words.{whether_within}
use Rattle.needs_of_choices.proofs.choosing.unchosen.Goals as goal

pub is_readonly-requires : goal.is_readonly-requires
is_readonly-requires g c = c.requires.0

pub returns-in-Ok-clause-comes : goal.returns-in-Ok-clause-comes
returns-in-Ok-clause-comes g c =
    over-on (whether_within g.T.Types.passes IsReadonlyType c.args.t.now.sem c.args.at) (λ b. gives (None, b)) _ _ _ c.in-Ok.immutable (Ok (None, c.in-Ok.immutable)) c.in-Ok.ensures.comes
    (over-some (λ o p. p ≡ (None, c.in-Ok.immutable)) _ (None, c.in-Ok.immutable) refl)

pub returns-in-Err-clause-comes : goal.returns-in-Err-clause-comes
returns-in-Err-clause-comes g c =
    over-stops (whether_within g.T.Types.passes IsReadonlyType c.args.t.now.sem c.args.at) (λ b. gives (None, b)) _ _ c.in-Err.stop c.in-Err.ensures.comes
