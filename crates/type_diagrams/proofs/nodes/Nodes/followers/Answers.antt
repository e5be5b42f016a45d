use Rattle.std.proofs.Common.{sym}
use Rattle.type_diagrams.proofs.Splits.{leaf-IsSplit, own-IsSplit, other-IsSplit}
use Rattle.type_diagrams.proofs.nodes.Nodes.followers.Goals as goal

pub returns-in-None : goal.returns-in-None
returns-in-None c = leaf-IsSplit c.args.self.now c.node.ensures.are c.args.on c.args.number c.requires.number (sym c.in-None.ensures.node)

pub returns-then-node-on : goal.returns-then-node-on
returns-then-node-on c = own-IsSplit c.args.self.now c.node.ensures.are c.args.on c.args.number c.in-Some.node.now c.requires.number (sym c.in-Some.ensures.node) c.if-node-on.true

pub returns-else-node-on : goal.returns-else-node-on
returns-else-node-on c = other-IsSplit c.args.self.now c.node.ensures.are c.args.on c.args.number c.in-Some.node.now c.requires.number c.requires.starts (sym c.in-Some.ensures.node) c.if-node-on.false
