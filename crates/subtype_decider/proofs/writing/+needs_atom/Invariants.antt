use Rattle.subtype_decider.proofs.writing.+needs_atom.Given as goal

abbrev pub decreases-needs_atom : goal.decreases-needs_atom
decreases-needs_atom l = l.number
