use Rattle.std.proofs.Common.{◌≡◌, take}
use Rattle.detail_questions.specs.inner.Names.{with_keys}
use Rattle.detail_questions.proofs.names.named_texts.Given as goal

abbrev pub invariant-loop-pair : goal.invariant-loop-pair
invariant-loop-pair l = l.texts.items ≡ with_keys (take l.pair-index l.pairs)
