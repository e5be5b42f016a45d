use Rattle.std.proofs.Common.{◌≡◌, take}
use Rattle.check_words.specs.Branches.{at_head}
use Rattle.check_work.specs.Views.{flow_of}
use Rattle.needs_of_statements.proofs.branches.widen.Given as goal

abbrev pub invariant-loop-name : goal.invariant-loop-name
invariant-loop-name l = flow_of l.here ≡ at_head (take l.name-index l.names) (flow_of l.initial.here)
