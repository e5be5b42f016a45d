use Rattle.std.proofs.Common.{take}
use Rattle.command_words.specs.inner.Choices.{AreShort}
use Rattle.command_words.proofs.command.are_short.Given as goal

abbrev pub invariant-loop-word : goal.invariant-loop-word
invariant-loop-word l = AreShort (take l.word-index l.words)
