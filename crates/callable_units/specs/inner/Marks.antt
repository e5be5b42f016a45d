-- Numbers that are marked.
use Rattle.std.specs.Prelude.{◌≡◌, ◌⊎◌, ◌↔◌, ◌<◌, ℕ, Bool, false, List, Any, IsTrue, get_or, length}
use Rattle.stack_code.specs.declared.code.Code.{Code}
use Rattle.stack_code.specs.declared.code.Spawn.{Spawn}
use Rattle.stack_code.specs.declared.code.Unit.{Unit as CodeUnit}
use Rattle.stack_code.specs.Places.{IsWorkerUnit}
use Rattle.stack_code.specs.Tables.{IsInherent, IsInitialiser}
use Rattle.callable_units.specs.declared.callable.Tables.{Tables}

-- the numbers that have the property are marked too
abbrev pub Marks : (ℕ → Type 0) → List Bool → List Bool → Type 0
Marks P old new = (length new ≡ length old) × ((n : ℕ) → n < length old → IsTrue (get_or new n false) ↔ (IsTrue (get_or old n false) ⊎ P n))

-- of so many numbers just those are marked that have the property
abbrev pub AreMarked : ℕ → (ℕ → Type 0) → List Bool → Type 0
AreMarked count P marks = (length marks ≡ count) × ((n : ℕ) → n < count → IsTrue (get_or marks n false) ↔ P n)

abbrev pub IsAmong : List ℕ → ℕ → Type 0
IsAmong numbers n = Any (λ m. m ≡ n) numbers

abbrev pub IsNamedIn : List Spawn → ℕ → Type 0
IsNamedIn workers n = Any (λ w. w.unit ≡ n) workers

abbrev pub IsNamedBy : List CodeUnit → ℕ → Type 0
IsNamedBy units n = Any (λ f. IsNamedIn f.workers n) units

-- the unit's own atoms are inherent
abbrev pub IsOwnInherent : Code → CodeUnit → Type 0
IsOwnInherent code u = IsInherent code u.arrow × IsInherent code u.future

-- it is no named worker and no initialiser
abbrev pub IsFree : Code → ℕ → Type 0
IsFree code n = (¬ (IsWorkerUnit code n)) × (¬ (IsInitialiser code n))

-- the tables of a code
pub record AreOf (code : Code) (tables : Tables) : Type 0 where
  pub inherent : AreMarked (length code.atoms) (IsInherent code) tables.inherent.items
  pub workers : AreMarked (length code.units) (IsWorkerUnit code) tables.workers.items
  pub initialisers : AreMarked (length code.units) (IsInitialiser code) tables.initialisers.items
