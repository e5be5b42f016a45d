use Rattle.std.specs.Prelude.{◌≡◌, ◌++◌, take}
use Rattle.op_model.specs.Fillers.{new_ones}
use Rattle.store_tests.proofs.gaps.push_new.Given as goal

abbrev pub invariant-loop-f : goal.invariant-loop-f
invariant-loop-f l = l.new.items ≡ l.fn.new.items ++ new_ones (take l.f-index l.fn.fillers)
