use Rattle.type_diagrams.proofs.Inserts.{nodes_in-Extends}
use Rattle.type_diagrams.proofs.diagrams.Diagrams.step.Goals as goal

pub returns-clause-extends : goal.returns-clause-extends
returns-clause-extends c =
    nodes_in-Extends 0 _ c.apply.new.self c.args.self.now c.self.invariant c.apply.ensures.grows c.apply.ensures.atoms c.self.view_is
