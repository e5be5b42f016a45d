-- Which type is held for each name of a wait.
use Rattle.std.specs.Prelude.{ℕ, Bool, true, false, List, [], ◌∷◌, Option, option_copied}
use Rattle.type_model.specs.declared.basic.SemType.{SemType}
use Rattle.code_needs.specs.RowNeeds.{held_by}
use Rattle.needs_of_places.specs.declared.waits.Held.{Held}
use Rattle.needs_of_places.specs.declared.waits.Held.TheVariants.{Fields, Given}

-- the one that is given, or that of the field in the name's place
abbrev pub held_in : Held → ℕ → Option SemType
held_in (Given given) k = option_copied given
held_in (Fields fields) k = held_by fields.now k

abbrev pub no_names : List (Option ℕ) → Bool
no_names [] = true
no_names (name ∷ names) = false
