use Rattle.std.proofs.Common.{◌-◌, sym, get_or, arith}
use Rattle.type_diagrams.specs.declared.node.Node.{Node}
use Rattle.type_diagrams.proofs.Splits.{node_at-read, right-IsFirstLiteral, later-IsFirstLiteral, left-IsFirstLiteral}
use Rattle.type_diagrams.proofs.nodes.Nodes.first_literal.Goals as goal

abbrev none : Node
none = record { on = 0; yes = 0; no = 0 }

pub returns-in-None : goal.returns-in-None
returns-in-None c =
    let right = node_at-read c.args.self.now c.as_slice.result.now c.args.right none c.requires.node c.requires.right c.as_slice.ensures.nodes in
    right-IsFirstLiteral c.args.self.now c.node.ensures.are c.args.left c.args.right c.requires.left c.requires.right (get_or c.as_slice.result.now (c.args.right - 2) none) right (sym c.in-None.ensures.node)

pub returns-then-rank : goal.returns-then-rank
returns-then-rank c =
    let right = node_at-read c.args.self.now c.as_slice.result.now c.args.right none c.requires.node c.requires.right c.as_slice.ensures.nodes in
    left-IsFirstLiteral c.args.self.now c.node.ensures.are c.args.left c.args.right c.requires.left c.requires.right (get_or c.as_slice.result.now (c.args.right - 2) none) right c.in-Some.node.now (sym c.in-Some.ensures.node) (grind (arith, c.if-rank.true, c.rank.ensures, c.rank-in-Some.ensures))

pub returns-else-rank : goal.returns-else-rank
returns-else-rank c =
    let right = node_at-read c.args.self.now c.as_slice.result.now c.args.right none c.requires.node c.requires.right c.as_slice.ensures.nodes in
    later-IsFirstLiteral c.args.self.now c.node.ensures.are c.args.left c.args.right c.requires.left c.requires.right (get_or c.as_slice.result.now (c.args.right - 2) none) right c.in-Some.node.now (sym c.in-Some.ensures.node) (grind (arith, c.if-rank.false, c.rank.ensures, c.rank-in-Some.ensures))
