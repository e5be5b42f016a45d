-- What steps of well-typed code keep that send messages, as laws.
use Rattle.std.specs.Prelude.{ℕ, List}
use Rattle.operations.specs.declared.operation.Operation.TheVariants as op
use Rattle.value_model.specs.declared.filler.Filler.{Filler}
use Rattle.value_model.specs.Meaning.{Answers}
use Rattle.code_keeping.specs.Laws.{IsDone}

-- a copy of a value is sent to another worker, also by the first half of a synchronous send
abbrev pub SendsAreDone : Answers → Type 0
SendsAreDone natives =
    (fillers : ℕ → List Filler) (w : ℕ) → let Done = IsDone fillers natives in
    Done (op.Send w) × Done (op.Post w)
