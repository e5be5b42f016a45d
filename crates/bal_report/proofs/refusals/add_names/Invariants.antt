use Rattle.std.proofs.Common.{take}
use Rattle.bal_report.specs.RefusalText.{name_text, on_the_way}
use Rattle.text_forms.specs.Forms.{Adds, written}
use Rattle.bal_report.proofs.refusals.add_names.Given as goal

abbrev pub invariant-loop-i : goal.invariant-loop-i
invariant-loop-i l = Adds (written l.initial.out) (on_the_way name_text (take l.i l.names)) (written l.out)
