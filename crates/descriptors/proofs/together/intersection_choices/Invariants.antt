use Rattle.std.proofs.Common.{◌≡◌, take}
use Rattle.descriptors.specs.Described.{made_immutable}
use Rattle.descriptors.proofs.together.intersection_choices.Given as goal

abbrev pub invariant-loop-choice : goal.invariant-loop-choice
invariant-loop-choice l = l.kept.items ≡ made_immutable (take l.choice-index l.choices)
