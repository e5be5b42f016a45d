use Rattle.std.proofs.Common.{◌-◌, get_or, refl, ◌∙◌, ap, arith}
use Rattle.std.specs.List.{each_same}
use Rattle.type_diagrams.specs.declared.node.Node.{Node}
use Rattle.type_diagrams.specs.Tables.{tree_of}
use Rattle.type_diagrams.proofs.PathSteps.{found_true, found_node, popped}
use Rattle.type_diagrams.proofs.Splits.{node_at-read, tree}
use Rattle.type_diagrams.proofs.diagrams.Diagrams.+find_paths.Goals as goal

pub returns-in_ok-push-in-1-clause-found : goal.returns-in_ok-push-in-1-clause-found
returns-in_ok-push-in-1-clause-found t c =
    found_true c.args.pos.now.items c.args.neg.now.items (tree_of c.args.self.now.nodes c.args.number) c.args.found.now.items
    c.of.result c.of-in-1.result c.push.new.self.items
    (ap (tree_of c.args.self.now.nodes) c.in-1.is)
    (c.of.ensures ∙ each_same c.args.pos.now.items c.in_ok-clone-in-1.field-0.items c.in_ok-clone-in-1.ensures.cases.0)
    (c.of-in-1.ensures ∙ each_same c.args.neg.now.items c.in_ok-clone-in-1-2.field-0.items c.in_ok-clone-in-1-2.ensures.cases.0)
    (c.in_ok-push-in-1.ensures.items)

abbrev none : Node
none = record { on = 0; yes = 0; no = 0 }

pub returns-in_ok-find_paths-in_default-2-clause-found : goal.returns-in_ok-find_paths-in_default-2-clause-found
returns-in_ok-find_paths-in_default-2-clause-found t c =
    let nodes = c.args.self.now.nodes in
    let n = c.args.number in
    let m = get_or c.nodes.result.now (n - 2) none in
    let at = node_at-read nodes c.nodes.result.now n none (omega arith) c.requires c.nodes.ensures.nodes in
    let pos = popped c.args.pos.now.items c.push-in_default.new.self.items c.find_paths.new.pos.items c.pop.new.self.items m.on c.pop.result c.find_paths.new.pos.len
    c.in_ok-find_paths-in_default.ensures.pos c.in_ok-push-in_default.ensures.items c.pop.ensures.items c.pop.ensures.variant c.find_paths.new.pos.ok.0 in
    found_node c.args.pos.now.items c.args.neg.now.items (tree_of nodes n) c.args.found.now.items m.on (tree_of nodes m.yes) (tree_of nodes m.no)
    c.push-in_default.new.self.items c.args.neg.now.items c.pop.new.self.items c.find_paths.new.neg.items c.push-in_default-2.new.self.items c.find_paths.new.found.items c.find_paths-in_default.new.found.items
    (tree nodes c.nodes.ensures.are n m at) c.in_ok-push-in_default.ensures.items refl pos c.in_ok-find_paths-in_default.ensures.neg c.in_ok-push-in_default-2.ensures.items c.in_ok-find_paths-in_default.ensures.found c.in_ok-find_paths-in_default-2.ensures.found
