-- What steps of well-typed code keep that call and start function values, as laws.
use Rattle.std.specs.Prelude.{ℕ, List}
use Rattle.operations.specs.declared.operation.Operation.TheVariants as op
use Rattle.value_model.specs.declared.filler.Filler.{Filler}
use Rattle.value_model.specs.Meaning.{Answers}
use Rattle.code_keeping.specs.Laws.{IsDone}

-- a function value is called: its unit begins with the arguments, those behind the others in a list, and with what it captured
abbrev pub ValuesAreCalled : Answers → Type 0
ValuesAreCalled natives = (fillers : ℕ → List Filler) (count : ℕ) → IsDone fillers natives (op.CallValue count)

-- and started
abbrev pub ValuesAreStarted : Answers → Type 0
ValuesAreStarted natives = (fillers : ℕ → List Filler) (count : ℕ) → IsDone fillers natives (op.StartValue count)
