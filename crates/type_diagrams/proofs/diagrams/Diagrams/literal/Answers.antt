use Rattle.std.proofs.Common.{arith}
use Rattle.type_diagrams.proofs.Inserts.{nodes_in-Extends}
use Rattle.type_diagrams.proofs.diagrams.Diagrams.literal.Goals as goal

pub returns-clause-extends : goal.returns-clause-extends
returns-clause-extends c least below =
    nodes_in-Extends least _ c.number.new.self c.args.self.now c.self.invariant c.number.ensures.grows (λ n le h. c.number.ensures.atoms n (λ apart. omega (arith, le, below apart)) h) c.self.view_is
