use Rattle.std.proofs.Common.{ℕ, List, arith, subst}
use Rattle.stack_code.specs.declared.code.Spawn.{Spawn}
use Rattle.stack_code.specs.declared.code.Unit.{Unit as CodeUnit}
use Rattle.callable_units.specs.inner.Marks.{IsNamedIn, Marks}
use Rattle.callable_units.proofs.Marking.{marks-all, marks-more, marks-none}
use Rattle.callable_units.proofs.marks.mark_crews.Goals as goal

pub loop-unit-init : goal.loop-unit-init
loop-unit-init c = marks-none (λ (f : CodeUnit) (n : ℕ). IsNamedIn f.workers n) c.args.units.now _

pub loop-unit-preserved : goal.loop-unit-preserved
loop-unit-preserved c = marks-more (λ (f : CodeUnit) (n : ℕ). IsNamedIn f.workers n) c.args.units.now c.loop-unit.unit-index c.unit-item.result _ _ _ (omega (arith, c.loop-unit-test.true)) c.unit-item.is c.loop-unit.invariant (subst (λ (l : List Spawn). Marks (IsNamedIn l) c.loop-unit.marks.items c.mark_workers.new.marks.items) c.as_slice.ensures c.mark_workers.ensures)

pub returns : goal.returns
returns c = marks-all (λ (f : CodeUnit) (n : ℕ). IsNamedIn f.workers n) c.args.units.now c.loop-unit.unit-index _ _ (omega (arith, c.loop-unit-test.false)) c.loop-unit.invariant
