-- What steps of well-typed code keep that start strands, as laws.
use Rattle.std.specs.Prelude.{ℕ, List}
use Rattle.operations.specs.declared.operation.Operation.TheVariants as op
use Rattle.value_model.specs.declared.filler.Filler.{Filler}
use Rattle.value_model.specs.Meaning.{Answers}
use Rattle.code_keeping.specs.Laws.{IsDone}

-- a unit is started: a strand more begins it, and its future is given
abbrev pub StartsAreDone : Answers → Type 0
StartsAreDone natives = (fillers : ℕ → List Filler) (unit count : ℕ) → IsDone fillers natives (op.Start unit count)
