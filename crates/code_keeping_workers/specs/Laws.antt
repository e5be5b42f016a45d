-- What steps of well-typed code keep that start named workers, as laws.
use Rattle.std.specs.Prelude.{ℕ, List}
use Rattle.operations.specs.declared.operation.Operation.TheVariants as op
use Rattle.value_model.specs.declared.filler.Filler.{Filler}
use Rattle.value_model.specs.Meaning.{Answers}
use Rattle.code_keeping.specs.Laws.{IsDone}

-- the named workers of a function are started: a strand for each begins it with what it captures, and the frame is the
-- default worker of a new activation
abbrev pub WorkersAreStarted : Answers → Type 0
WorkersAreStarted natives = (fillers : ℕ → List Filler) → IsDone fillers natives op.Workers
