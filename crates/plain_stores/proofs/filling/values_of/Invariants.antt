use Rattle.std.specs.Prelude.{◌≡◌, ◌+◌, length, take}
use Rattle.op_model.specs.Fillers.{filler_values, new_ones}
use Rattle.plain_stores.proofs.filling.values_of.Given as goal

abbrev pub invariant-loop-f : goal.invariant-loop-f
invariant-loop-f l =
    (l.next ≡ l.fn.first + length (new_ones (take l.f-index l.fn.fillers))) × (l.values.items ≡ filler_values l.fn.first (take l.f-index l.fn.fillers))
