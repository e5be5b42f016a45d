-- What one name of a wait needs, and which futures are left behind it.
use Rattle.std.specs.Prelude.{◌≡◌, ◌+◌, ◌∷◌, ℕ, List, Option}
use Rattle.type_model.specs.declared.basic.SemType.{SemType}
use Rattle.operations.specs.Rows.{Surroundings}
use Rattle.code_needs.specs.Combining.{Needs, ◌&◌}
use Rattle.code_needs.specs.RowNeeds.{awaits}
use Rattle.needs_of_rows.specs.declared.found.Found.{Found}
use Rattle.needs_of_rows.specs.Finding.{Finds}

-- so much was found; with what the names behind it need of those that are left it is what all need
abbrev pub AwaitsOne : Surroundings → Option SemType → Option ℕ → List SemType → Found → Found → List SemType → Type 0
AwaitsOne place held name operands old new left =
    (front : Needs) × Finds front old new
    × ((f : ℕ → Option SemType) (k : ℕ) (names : List (Option ℕ)) → f k ≡ held →
    awaits place f k (name ∷ names) operands ≡ front & awaits place f (k + 1) names left)
