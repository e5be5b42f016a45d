use Rattle.std.proofs.Common.{filter, take}
use Rattle.std.specs.List.{AllZip}
use Rattle.pair_questions.specs.declared.pair.Pair.{Pair}
use Rattle.detail_questions.specs.Details.{is_open}
use Rattle.detail_questions.specs.inner.Group.{IsLack}
use Rattle.detail_questions.proofs.errors.lacks.Given as goal

abbrev pub invariant-loop-pair : goal.invariant-loop-pair
invariant-loop-pair l = AllZip (IsLack l.names) (filter (λ (p : Pair). is_open p.key.now) (take l.pair-index l.pairs)) l.defs.items
