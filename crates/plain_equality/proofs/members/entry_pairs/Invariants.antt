use Rattle.value_model.specs.Heap.{Entries}
use Rattle.plain_equality.proofs.Sides.{IsPaired, IsKeyDone}
use Rattle.plain_equality.proofs.members.entry_pairs.Given as goal

abbrev pub invariant-loop-e : goal.invariant-loop-e
invariant-loop-e l = IsPaired (IsKeyDone l.first l.e-index) (Entries l.first) (Entries l.second) l.pairs.items
