-- Where parts of a source file stand in its text.
use Rattle.std.specs.Prelude.{◌≡◌, ◌<◌, ℕ, List, All, IsCharBoundary}
use Rattle.bal_base.specs.declared.place.Place.{Place}
use Rattle.bal_tree.specs.declared.def.Import.{Import}

-- the place is one of the file with the number and the bytes: there a character begins, or the file ends
pub record IsPlaceOf (file : ℕ) (bytes : List ℕ) (at : Place) : Type 0 where
  pub number : at.file ≡ file
  pub boundary : IsCharBoundary bytes at.at
  pub small : at.at < 4294967295

-- each of the imports stands in that file
abbrev pub AreImportsOf : ℕ → List ℕ → List Import → Type 0
AreImportsOf file bytes imports = All (λ (i : Import). IsPlaceOf file bytes i.at) imports
