use Rattle.std.proofs.Common.{Ok, refl, subst, sym}
use Rattle.checks.specs.Checks.{Comes}
use Rattle.check_words.specs.Words.{unless}
use Rattle.check_words.proofs.Coming.{given}
use Rattle.needs_of_calls.proofs.refusing.require.Goals as goal

pub returns-then-so : goal.returns-then-so
returns-then-so c = λ s. subst (λ b. Comes (unless b c.args.code c.args.at) s (Ok tt) s) (sym c.if-so.true) (given _ s tt refl)
