use Rattle.std.proofs.Common.{◌≡◌, ◌++◌, List, vec_len}
use Rattle.subtype_decider.specs.declared.held.Held.{Held}
use Rattle.subtype_decider.specs.Entries.{AreApart}
use Rattle.subtype_decider.specs.Working.{IsWithoutAll}
use Rattle.subtype_decider.proofs.table.Table.forget.Given as goal

abbrev pub invariant-loop-last : goal.invariant-loop-last
invariant-loop-last l = (gone : List Held) × (l.initial.held.items ≡ l.held.items ++ gone) × IsWithoutAll l.initial.self l.self gone × AreApart l.self

abbrev pub decreases-loop-last : goal.decreases-loop-last
decreases-loop-last l = vec_len l.held
