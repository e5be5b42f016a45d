use Rattle.std.proofs.Common.{◌≡◌, take}
use Rattle.std.specs.Prelude.{Any}
use Rattle.stack_code.specs.declared.code.Spawn.{Spawn}
use Rattle.callable_units.specs.inner.Marks.{Marks}
use Rattle.callable_units.proofs.marks.mark_workers.Given as goal

abbrev pub invariant-loop-worker : goal.invariant-loop-worker
invariant-loop-worker l = Marks (λ n. Any (λ (w : Spawn). w.unit ≡ n) (take l.worker-index l.workers)) l.fn.marks.items l.marks.items
