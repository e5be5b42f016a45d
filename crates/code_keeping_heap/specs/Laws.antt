-- What steps of well-typed code keep that make, read and change structures, as laws.
use Rattle.std.specs.Prelude.{ℕ, Bool, List}
use Rattle.bal_base.specs.declared.text.Text.{Text}
use Rattle.operations.specs.declared.operation.Operation.TheVariants as op
use Rattle.value_model.specs.declared.filler.Filler.{Filler}
use Rattle.value_model.specs.Meaning.{Answers}
use Rattle.code_keeping.specs.Laws.{IsDone}

-- function values, lists, mappings and errors are made
abbrev pub ConstructorsAreDone : Answers → Type 0
ConstructorsAreDone natives =
    (fillers : ℕ → List Filler) → ((unit count : ℕ) → IsDone fillers natives (op.MakeFunction unit count))
    × ((atom count : ℕ) (immutable : Bool) → IsDone fillers natives (op.MakeList atom immutable count))
    × ((atom count : ℕ) (immutable : Bool) → IsDone fillers natives (op.MakeMapping atom immutable count))
    × ((count : ℕ) → IsDone fillers natives (op.MakeError count))

-- items of lists and members of mappings are read
abbrev pub ReadsAreDone : Answers → Type 0
ReadsAreDone natives =
    (fillers : ℕ → List Filler) → let Done = IsDone fillers natives in
    Done op.GetItem × Done op.GetKey × ((name : Text) → Done (op.GetField name)) × ((name : Text) → Done (op.GetOptional name))
