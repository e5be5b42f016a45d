use Rattle.std.proofs.Common.{◌+◌}
use Rattle.type_diagrams.proofs.nodes.Nodes.+apply.Given as goal

abbrev pub decreases-apply : goal.decreases-apply
decreases-apply l = l.step.left + l.step.right
