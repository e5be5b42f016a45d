-- Calls of function values.
use Rattle.std.proofs.Common.{◌≡◌, ◌≤◌, ◌∙◌, Bool, true, false, List, Option, length, sym, ap, ◌+◌, arith}
use Rattle.std.specs.Prelude.{if◌then◌else◌, nat_le}
use Rattle.std.proofs.lemmas.List.{map-append}
use Rattle.std.proofs.lemmas.Option.{slice_get-map}
use Rattle.bal_base.specs.declared.fault.LimitKind.TheVariants.{Cells, Strands}
use Rattle.value_model.specs.declared.value.Value.{Value}
use Rattle.value_model.specs.Heap.{FunctionObject, Heap, cells}
use Rattle.op_model.specs.CallRows.{arguments, starts, with_arguments}
use Rattle.op_model.specs.Common.{Common, Role}
use Rattle.op_model.specs.Effects.{Effect, Beyond, Enters}
use Rattle.op_model.specs.ProgramFacts.{UnitFacts}
use Rattle.op_model.specs.Limits.{most_cells, most_strands}
use Rattle.plain_run.proofs.Lists.{append-one}
use Rattle.plain_calls.proofs.Making.{starts-past}
use Rattle.plain_calls.specs.Callees.{rest_fits, value_called, value_started}

pub no-more : (h : Heap) → nat_le (cells h) most_cells ≡ true → true ≡ nat_le (cells h + 0) most_cells
no-more h e = sym (ap (λ n. nat_le n most_cells) (let same : cells h + 0 ≡ cells h = omega arith in same) ∙ e)

module _ (c : Common) (f : FunctionObject) (u : UnitFacts) (args : List Value) where
  abbrev kept : Effect → Bool → Effect
  kept e b = if b then e else Beyond Cells

  pub called-there : rest_fits u c.world args ≡ true → Enters f.unit (arguments c f u args) (with_arguments c u args) ≡ value_called c f u args
  called-there e = sym (ap (kept (Enters f.unit (arguments c f u args) (with_arguments c u args))) e)

  pub called-past : rest_fits u c.world args ≡ false → Beyond Cells ≡ value_called c f u args
  called-past e = sym (ap (kept (Enters f.unit (arguments c f u args) (with_arguments c u args))) e)

  pub started-there : (role : Option Role) → rest_fits u c.world args ≡ true → starts (with_arguments c u args) role f.unit (arguments c f u args) ≡ value_started c role f u args
  started-there role e = sym (ap (kept (starts (with_arguments c u args) role f.unit (arguments c f u args))) e)

  pub started-past : (role : Option Role) → rest_fits u c.world args ≡ false → Beyond Cells ≡ value_started c role f u args
  started-past role e = sym (ap (kept (starts (with_arguments c u args) role f.unit (arguments c f u args))) e)

  pub started-full : (role : Option Role) → rest_fits u c.world args ≡ true → most_strands ≤ length c.strands → Beyond Strands ≡ value_started c role f u args
  started-full role e le = starts-past (with_arguments c u args) role f.unit (arguments c f u args) le ∙ started-there role e

pub ruleset calling = (slice_get-map, append-one, map-append, called-past, started-past)
