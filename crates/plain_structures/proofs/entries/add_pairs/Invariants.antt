use Rattle.std.specs.Prelude.{Bool, List, length}
use Rattle.bal_base.specs.declared.text.Text.{Text}
use Rattle.value_model.specs.declared.value.Value.{Value}
use Rattle.plain_structures.specs.Entries.{AreAdded}
use Rattle.plain_structures.proofs.entries.add_pairs.Given as goal

abbrev pub decreases-pairs : goal.decreases-pairs
decreases-pairs l = length l.left

abbrev pub invariant-pairs : goal.invariant-pairs
invariant-pairs l = (all : Bool) (new : List (Text × Value)) → AreAdded l.entries l.left all new → AreAdded l.fn.entries l.fn.pairs all new
