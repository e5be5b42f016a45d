use Rattle.std.proofs.Common.{map, string_bytes}
use Rattle.command_words.specs.inner.Reading.{awaited, said_by}
use Rattle.command_words.proofs.Reading.{IsReadTo}
use Rattle.command_words.proofs.parts.parts_of.Given as goal

abbrev pub invariant-loop-word : goal.invariant-loop-word
invariant-loop-word l = IsReadTo (map string_bytes l.words) l.word-index (said_by l.parts) (awaited l.awaits)
