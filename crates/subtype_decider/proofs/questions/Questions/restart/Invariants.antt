use Rattle.std.proofs.Common.{◌≡◌, ◌++◌, map, take, drop}
use Rattle.subtype_decider.specs.Working.{from_first}
use Rattle.subtype_decider.proofs.questions.Questions.restart.Given as goal

abbrev pub invariant-loop-held : goal.invariant-loop-held
invariant-loop-held l = l.held-items ≡ map from_first (take l.held-index l.initial.held-items) ++ drop l.held-index l.initial.held-items
