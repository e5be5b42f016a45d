use Rattle.std.proofs.Common.{◌≡◌, ℕ, arith}
use Rattle.stack_code.specs.declared.code.Spawn.{Spawn}
use Rattle.callable_units.proofs.Marking.{marks-all, marks-more, marks-none, set-marks}
use Rattle.callable_units.proofs.marks.mark_workers.Goals as goal

pub loop-worker-init : goal.loop-worker-init
loop-worker-init c = marks-none (λ (w : Spawn) (n : ℕ). w.unit ≡ n) c.args.workers.now _

pub loop-worker-preserved : goal.loop-worker-preserved
loop-worker-preserved c = marks-more (λ (w : Spawn) (n : ℕ). w.unit ≡ n) c.args.workers.now c.loop-worker.worker-index c.worker-item.result _ _ _ (omega (arith, c.loop-worker-test.true)) c.worker-item.is c.loop-worker.invariant (set-marks _ _ _ c.mark.ensures)

pub returns : goal.returns
returns c = marks-all (λ (w : Spawn) (n : ℕ). w.unit ≡ n) c.args.workers.now c.loop-worker.worker-index _ _ (omega (arith, c.loop-worker-test.false)) c.loop-worker.invariant
