use Rattle.std.specs.Prelude.{◌≡◌, ◌+◌, ◌++◌, drop, length}
use Rattle.op_model.specs.Levels.{numbers_from}
use Rattle.plain_calls.proofs.workers.add_numbers.Given as goal

abbrev pub invariant-loop : goal.invariant-loop
invariant-loop l =
    (l.number ≡ l.fn.first + l.index) × (l.numbers.items ++ numbers_from l.number (length (drop l.index l.fn.workers)) ≡ l.fn.numbers.items ++ numbers_from l.fn.first (length l.fn.workers))
