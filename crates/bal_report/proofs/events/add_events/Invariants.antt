use Rattle.std.proofs.Common.{take}
use Rattle.bal_report.specs.EventText.{event_text}
use Rattle.bal_report.specs.RefusalText.{on_the_way}
use Rattle.text_forms.specs.Forms.{Adds, written}
use Rattle.bal_report.proofs.events.add_events.Given as goal

abbrev pub invariant-loop-i : goal.invariant-loop-i
invariant-loop-i l = Adds (written l.initial.out) (on_the_way (event_text l.modules) (take l.i l.events)) (written l.out)
