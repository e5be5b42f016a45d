use Rattle.std.proofs.Common.{◌≤◌}
use Rattle.std.specs.List.{count_by}
use Rattle.filler_tables.proofs.Marking.{OnTheWay}
use Rattle.filler_tables.proofs.rounds.settle.Given as goal

abbrev pub invariant-loop-turn : goal.invariant-loop-turn
invariant-loop-turn l = OnTheWay l.defs l.rows l.marks.items × (l._turn ≤ count_by (λ m. m) l.marks.items)
