use Rattle.std.proofs.Common.{Ok, refl, subst, sym}
use Rattle.checks.specs.Checks.{Comes}
use Rattle.check_words.proofs.Coming.{given}
use Rattle.check_work.specs.Views.{state_of}
use Rattle.needs_of_assignments.specs.Assigning.{forgets}
use Rattle.needs_of_assignments.proofs.assigned.forget.Goals as goal

pub returns-in-Module-clause-comes : goal.returns-in-Module-clause-comes
returns-in-Module-clause-comes c = λ env. let s = state_of env c.args.work.now in
    subst (λ w. Comes (forgets w) s (Ok tt) s) (sym c.in-Module.is) (given _ s tt refl)
