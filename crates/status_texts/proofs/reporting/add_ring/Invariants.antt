use Rattle.std.proofs.Common.{take}
use Rattle.text_forms.specs.Forms.{Adds, written}
use Rattle.status_texts.specs.Status.{ring_text}
use Rattle.status_texts.proofs.reporting.add_ring.Given as goal

abbrev pub invariant-loop-i : goal.invariant-loop-i
invariant-loop-i l = Adds (written l.initial.out) (ring_text (take l.i l.ring)) (written l.out)
