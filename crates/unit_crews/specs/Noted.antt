-- What was noted of the workers of functions, by the numbers of units.
use Rattle.std.specs.Prelude.{◌≡◌, ℕ, List, [], ◌∷◌, Option, Some, slice_get, ⊤}
use Rattle.typed_tree.specs.declared.package.TypedPackage.{TypedPackage}
use Rattle.typed_tree.specs.declared.unit.TypedFunction.{TypedFunction}
use Rattle.typed_tree.specs.declared.unit.TypedWorker.{TypedWorker}
use Rattle.typed_tree.specs.Units.{UnitBody, OfAnonymous, OfFunction, OfInitialiser, OfWorker}
use Rattle.tree_promises.specs.Placed.{named_workers}
use Rattle.unit_crews.specs.Crews.{Crewed, crew_count, crewed_units}

abbrev pub Counts : Type 0
Counts = List (Option ℕ)

-- P holds of each
abbrev pub Each : {X : Type 0} → (X → Type 0) → List X → Type 0
Each P [] = ⊤
Each P (x ∷ xs) = P x × Each P xs

abbrev pub StandsAt : Counts → ℕ → ℕ → Type 0
StandsAt counts n k = slice_get counts n ≡ Some (Some k)

-- what stood there stands there
abbrev pub Keeps : Counts → Counts → Type 0
Keeps old new = (n k : ℕ) → StandsAt old n k → StandsAt new n k

abbrev pub NotesOne : ℕ → ℕ → Counts → Counts → Type 0
NotesOne n k old new = StandsAt new n k × Keeps old new

-- these workers are of a function with so many
abbrev pub NotesWorkers : ℕ → List TypedWorker → Counts → Counts → Type 0
NotesWorkers count ws old new = Each (λ w. StandsAt new w.unit.number count) ws × Keeps old new

abbrev pub NotesFunctions : List TypedFunction → Counts → Counts → Type 0
NotesFunctions fs old new = Each (λ f. Each (λ w. StandsAt new w.unit.number (crew_count f.body)) (named_workers f.body)) fs × Keeps old new

-- how many there are is told by the body of a function, and by what was noted of a named worker; none are known of other units
abbrev pub IsCounted : Counts → Crewed → UnitBody → Type 0
IsCounted counts u (OfFunction body) = u.workers ≡ crew_count body
IsCounted counts u (OfWorker stmts ends) = StandsAt counts u.tree.unit.number u.workers
IsCounted counts u (OfAnonymous value) = u.workers ≡ 0
IsCounted counts u (OfInitialiser values) = u.workers ≡ 0

abbrev pub HasCrews : TypedPackage → Counts → Type 0
HasCrews p counts = Each (λ u. IsCounted counts u u.tree.body) (crewed_units p)
