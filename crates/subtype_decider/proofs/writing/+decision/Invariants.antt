use Rattle.subtype_decider.proofs.writing.+decision.Given as goal

abbrev pub decreases-decision : goal.decreases-decision
decreases-decision l = l.number
