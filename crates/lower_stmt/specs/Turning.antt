-- The turns of a loop, by its labels.
use Rattle.std.specs.Prelude.{ℕ}
use Rattle.eval_model.specs.Ways.{Turns}
use Rattle.lower_stmt.specs.declared.turning.Turning.{Turning}

abbrev pub turns_of : Turning → Turns ℕ
turns_of l = record { head = l.head; exit = l.exit }
