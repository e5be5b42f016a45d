use Rattle.std.proofs.Common.{subst}
use Rattle.seen_names.specs.Given.{SeenBelow}
use Rattle.seen_names.specs.Views.{seen_of}
use Rattle.needs_of_calls.proofs.named.called_as.Goals as goal

pub returns-in-Variable-clause-below : goal.returns-in-Variable-clause-below
returns-in-Variable-clause-below c = λ n h. c.valued.ensures.below n (subst (λ x. SeenBelow n (seen_of x)) c.in-Variable.is h)

pub returns-in-Constant-clause-below : goal.returns-in-Constant-clause-below
returns-in-Constant-clause-below c = λ n h. c.valued-in-Constant.ensures.below n (subst (λ x. SeenBelow n (seen_of x)) c.in-Constant.is h)

pub returns-in-Meaning-clause-below : goal.returns-in-Meaning-clause-below
returns-in-Meaning-clause-below c = λ n h. c.meant.ensures.below n (subst (λ x. SeenBelow n (seen_of x)) c.in-Meaning.is h)
