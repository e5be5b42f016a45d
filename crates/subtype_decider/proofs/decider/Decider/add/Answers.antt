use Rattle.subtype_decider.proofs.Resting.{rest-added}
use Rattle.subtype_decider.proofs.decider.Decider.add.Goals as goal

pub invariant_of-self : goal.invariant_of-self
invariant_of-self c = rest-added c.self.inside.env c.add.new.self c.add.ensures.kept c.self.inside.questions c.nodes-nodes.ensures.table c.self.invariant
