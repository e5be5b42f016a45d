-- What is wanted for an assignment with an operator.
use Rattle.std.specs.Prelude.{◌≡◌, ◌++◌, List, [], ◌∷◌, Option, Some}
use Rattle.typed_tree.specs.SharedTypes.{Shared}

-- the type was wanted last, and is wanted no more
abbrev pub IsTaken : Shared → List (Option Shared) → List (Option Shared) → Type 0
IsTaken t old new = old ≡ new ++ Some t ∷ []

-- one was wanted before the other
pub record AreTaken (stored read result : Shared) (old new : List (Option Shared)) : Type 0 where
  pub first : List (Option Shared)
  pub second : List (Option Shared)
  pub result_taken : IsTaken result old first
  pub read_taken : IsTaken read first second
  pub stored_taken : IsTaken stored second new
