use Rattle.subtype_decider.proofs.decider.Decider.new.Goals as goal

pub invariant_of-result : goal.invariant_of-result
invariant_of-result c = c.new-2.ensures.rest c.new.result
