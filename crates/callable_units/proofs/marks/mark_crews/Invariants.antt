use Rattle.std.proofs.Common.{take}
use Rattle.std.specs.Prelude.{Any}
use Rattle.stack_code.specs.declared.code.Unit.{Unit as CodeUnit}
use Rattle.callable_units.specs.inner.Marks.{IsNamedIn, Marks}
use Rattle.callable_units.proofs.marks.mark_crews.Given as goal

abbrev pub invariant-loop-unit : goal.invariant-loop-unit
invariant-loop-unit l = Marks (λ n. Any (λ (f : CodeUnit). IsNamedIn f.workers n) (take l.unit-index l.units)) l.fn.marks.items l.marks.items
