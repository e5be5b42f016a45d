use Rattle.std.specs.Prelude.{◌≡◌, ◌+◌, ◌++◌, drop, map}
use Rattle.op_model.specs.CallRows.{workers_from}
use Rattle.plain_run.specs.Effects.{spawned_of}
use Rattle.plain_run.specs.ProgramFacts.{worker_facts_of}
use Rattle.plain_calls.proofs.workers.add_workers.Given as goal

abbrev pub invariant-loop-next : goal.invariant-loop-next
invariant-loop-next l =
    (l.number ≡ l.fn.worker + l.next-index)
    × (map spawned_of l.spawned.items ++ workers_from l.fn.activation l.number (map worker_facts_of (drop l.next-index l.fn.workers)) l.left
    ≡ map spawned_of l.fn.spawned.items ++ workers_from l.fn.activation l.fn.worker (map worker_facts_of l.fn.workers) l.fn.values)
