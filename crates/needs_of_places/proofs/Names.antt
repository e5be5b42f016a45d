-- Names of a wait.
use Rattle.std.proofs.Common.{◌≡◌, ℕ, true, false, List, [], ◌∷◌, Option, None, refl}
use Rattle.code_needs.specs.Combining.{nothing}
use Rattle.code_needs.specs.RowNeeds.{some_name}
use Rattle.needs_of_places.specs.inner.Held.{no_names}

pub no-name-there : (names : List (Option ℕ)) → no_names names ≡ true → None ≡ some_name names
no-name-there [] e = refl
no-name-there (n ∷ names) e = absurd (let bad : false ≡ true = e in let bot : ⊥ = cc in bot)

pub name-there : (names : List (Option ℕ)) → no_names names ≡ false → nothing ≡ some_name names
name-there [] e = absurd (let bad : true ≡ false = e in let bot : ⊥ = cc in bot)
name-there (n ∷ names) e = refl
