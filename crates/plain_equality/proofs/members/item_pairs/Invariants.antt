use Rattle.value_model.specs.Heap.{Items}
use Rattle.plain_equality.proofs.Sides.{IsPaired, IsPlaceDone}
use Rattle.plain_equality.proofs.members.item_pairs.Given as goal

abbrev pub invariant-loop-i : goal.invariant-loop-i
invariant-loop-i l = IsPaired (IsPlaceDone l.i) (Items l.first) (Items l.second) l.pairs.items
