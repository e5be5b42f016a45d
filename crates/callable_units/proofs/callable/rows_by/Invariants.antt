use Rattle.std.proofs.Common.{◌≡◌, ◌<◌, All, length}
use Rattle.stack_code.specs.declared.code.Code.{Code}
use Rattle.stack_code.specs.Tables.{IsCallable}
use Rattle.callable_units.specs.inner.Marks.{AreOf}
use Rattle.callable_units.proofs.Called.{Rows}
use Rattle.callable_units.proofs.callable.rows_by.Given as goal

abbrev pub invariant-loop-number : goal.invariant-loop-number
invariant-loop-number l = (code : Code) → AreOf code l.tables → All (λ a. a < length code.atoms) code.inherent → code.units ≡ l.units → Rows (IsCallable code) l.rows.items l.number
