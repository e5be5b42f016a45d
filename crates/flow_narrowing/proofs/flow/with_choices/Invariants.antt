use Rattle.std.proofs.Common.{◌≡◌, take}
use Rattle.descriptors.specs.Described.{with_choices}
use Rattle.flow_narrowing.proofs.flow.with_choices.Given as goal

abbrev pub invariant-loop-choice : goal.invariant-loop-choice
invariant-loop-choice l = l.all.items ≡ with_choices l.choices (take l.choice-index l.more)
