use Rattle.std.proofs.Common.{◌≡◌, chars, map, take}
use Rattle.std.specs.Prelude.{All}
use Rattle.bal_base.specs.Valid.{IsText}
use Rattle.command_words.specs.inner.Reading.{bytes_of}
use Rattle.command_words.proofs.mode.texts_of.Given as goal

abbrev pub invariant-loop-word : goal.invariant-loop-word
invariant-loop-word l = (l.texts.items ≡ map chars (bytes_of (take l.word-index l.words))) × All IsText l.texts.items
