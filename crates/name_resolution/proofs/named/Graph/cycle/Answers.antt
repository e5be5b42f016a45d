use Rattle.name_resolution.proofs.named.Graph.cycle.Goals as goal

pub returns-then-self : goal.returns-then-self
returns-then-self c = c.requires.acyclic c.if-self.true c.args.number
