use Rattle.std.proofs.Common.{Ok, subst}
use Rattle.checks.specs.Checks.{Comes}
use Rattle.check_words.specs.Statements.{declares}
use Rattle.check_work.specs.Views.{state_of}
use Rattle.needs_of_assignments.proofs.declared.declare_within.Goals as goal

pub returns-clause-stands : goal.returns-clause-stands
returns-clause-stands c = λ env h. c.in_ok-declare_local.ensures.stands env h

pub returns-clause-comes : goal.returns-clause-comes
returns-clause-comes c = λ env.
    subst (λ b. Comes (declares c.args.name.now c.args.is_final b c.args.at) (state_of env c.args.work.now) (Ok tt) (state_of env c.declare_local.new.work)) c.in_ok-again.ensures
    (c.in_ok-declare_local.ensures.comes env)
