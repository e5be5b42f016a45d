use Rattle.std.proofs.Common.{◌≡◌, drop}
use Rattle.operations.specs.Talk.{workers_in}
use Rattle.worker_members.specs.inner.Hearing.{is_none}
use Rattle.event_search.proofs.exprs.names_none.Given as goal

abbrev pub invariant-loop-name : goal.invariant-loop-name
invariant-loop-name l = is_none (workers_in (drop l.name-index l.names)) ≡ is_none (workers_in l.names)
