use Rattle.std.proofs.Common.{take}
use Rattle.code_texts.specs.CodeText.{numbers_text}
use Rattle.text_forms.specs.Forms.{Adds, written}
use Rattle.code_texts.proofs.instructions.add_entries.Given as goal

abbrev pub invariant-loop-entry : goal.invariant-loop-entry
invariant-loop-entry l = Adds (written l.initial.out) (numbers_text (take l.entry-index l.awaited)) (written l.out)
