use Rattle.std.proofs.Common.{Ok, subst, sym}
use Rattle.checks.specs.Checks.{Comes}
use Rattle.check_words.specs.Statements.{takes_part}
use Rattle.check_work.specs.Views.{state_of}
use Rattle.needs_of_assignments.proofs.stmts.take_boxed.Goals as goal

pub returns-clause-stands : goal.returns-clause-stands
returns-clause-stands c = λ env h. c.in_ok-part.ensures.stands env h

pub returns-clause-comes : goal.returns-clause-comes
returns-clause-comes c = λ env.
    subst (λ e. Comes takes_part (state_of env c.args.work.now) (Ok e) (state_of env c.take_part.new.work)) (sym c.in_ok-boxed.ensures.ok) (c.in_ok-part.ensures.comes env)
