use Rattle.std.proofs.Common.{◌≡◌, drop}
use Rattle.package_imports.specs.Imports.{dotted}
use Rattle.package_imports.proofs.targets.with_words.Given as goal

abbrev pub invariant-loop-word : goal.invariant-loop-word
invariant-loop-word l = dotted l.initial.path l.words ≡ dotted l.path (drop l.word-index l.words)
