use Rattle.std.proofs.Common.{flat_map}
use Rattle.text_forms.specs.Forms.{Adds, escaped, written}
use Rattle.text_forms.proofs.add_quoted.Given as goal

abbrev pub invariant-loop-c : goal.invariant-loop-c
invariant-loop-c l = Adds (written l.initial.out) (flat_map escaped l.yielded) (written l.out)
