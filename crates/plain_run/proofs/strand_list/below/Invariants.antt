use Rattle.std.specs.Prelude.{◌≡◌, ◌++◌, Bool, drop, take}
use Rattle.plain_run.specs.Blocked.{noted}
use Rattle.plain_run.proofs.strand_list.below.Given as goal

abbrev pub invariant-loop-m : goal.invariant-loop-m
invariant-loop-m l =
    (l.at ≡ l.m-index) × ((is : Bool) → noted l.fn.n is l.fn.numbers ≡ take l.m-index l.fn.numbers ++ noted l.fn.n is (drop l.m-index l.fn.numbers))
