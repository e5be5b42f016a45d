use Rattle.std.specs.Prelude.{◌≡◌, map, pos, take}
use Rattle.value_model.specs.declared.value.Value.TheVariants.{Int}
use Rattle.plain_library.proofs.strings.points.Given as goal

abbrev pub invariant-loop-c : goal.invariant-loop-c
invariant-loop-c l = l.all.items ≡ map (λ c. Int (pos c)) (take l.c-index l.characters)
