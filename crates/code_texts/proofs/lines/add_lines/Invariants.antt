use Rattle.std.proofs.Common.{take}
use Rattle.code_texts.specs.CodeText.{lines_from}
use Rattle.text_forms.specs.Forms.{Adds, written}
use Rattle.code_texts.proofs.lines.add_lines.Given as goal

abbrev pub invariant-loop-place : goal.invariant-loop-place
invariant-loop-place l = Adds (written l.initial.out) (lines_from 0 (take l.place l.instrs)) (written l.out)
