use Rattle.std.proofs.Common.{◌∙◌}
use Rattle.typed_tree.specs.Nodes.{package_nodes}
use Rattle.typed_tree.proofs.Running.{counted-all}
use Rattle.typed_tree.proofs.counting.nodes.Goals as goal

pub returns : goal.returns
returns c = c.all.ensures ∙ counted-all (package_nodes c.args.package.now)
