use Rattle.std.proofs.Common.{◌≡◌, map, take}
use Rattle.value_model.specs.declared.value.Value.TheVariants.{Str}
use Rattle.code_steps.proofs.starting.words_as_values.Given as goal

abbrev pub invariant-loop-word : goal.invariant-loop-word
invariant-loop-word l = l.values.items ≡ map Str (take l.word-index l.words)
