use Rattle.std.specs.Prelude.{◌≡◌, map, take}
use Rattle.value_model.specs.declared.value.Value.TheVariants.{Str}
use Rattle.plain_library.proofs.mappings.keys_of.Given as goal

abbrev pub invariant-loop-e : goal.invariant-loop-e
invariant-loop-e l = l.all.items ≡ map (λ e. Str e.0) (take l.e-index l.entries)
