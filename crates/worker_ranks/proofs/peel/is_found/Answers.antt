use Rattle.std.proofs.Common.{subst, sym}
use Rattle.std.specs.Prelude.{option_map}
use Rattle.std.proofs.lemmas.Bool.{false≢true}
use Rattle.graphs.specs.Cycles.{IsCycleFound}
use Rattle.worker_ranks.proofs.peel.is_found.Goals as goal

pub returns-in-Some-clause-none : goal.returns-in-Some-clause-none
returns-in-Some-clause-none c next n found off = absurd (false≢true (sym off))

pub returns-in-None-clause-none : goal.returns-in-None-clause-none
returns-in-None-clause-none c next n found off = subst (λ o. IsCycleFound next n (option_map (λ v. v.items) o)) c.in-None.is found

pub returns-in-Some-clause-cycle : goal.returns-in-Some-clause-cycle
returns-in-Some-clause-cycle c next n found on = let first = subst (λ o. IsCycleFound next n (option_map (λ v. v.items) o)) c.in-Some.is found in (_, first.cycle)

pub returns-in-None-clause-cycle : goal.returns-in-None-clause-cycle
returns-in-None-clause-cycle c next n found on = absurd (false≢true on)
