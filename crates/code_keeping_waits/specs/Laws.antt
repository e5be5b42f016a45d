-- What steps of well-typed code keep that wait, as laws.
use Rattle.std.specs.Prelude.{ℕ, List, Option}
use Rattle.operations.specs.declared.operation.Operation.TheVariants as op
use Rattle.value_model.specs.declared.filler.Filler.{Filler}
use Rattle.value_model.specs.Meaning.{Answers}
use Rattle.code_keeping.specs.Laws.{IsDone}

-- a worker of the activation, or a future, is waited for; the result of a future is taken
abbrev pub SingleWaitsAreDone : Answers → Type 0
SingleWaitsAreDone natives =
    (fillers : ℕ → List Filler) → let Done = IsDone fillers natives in
    ((w : ℕ) → Done (op.WaitWorker w)) × Done op.WaitFuture

-- one of several workers and futures is waited for
abbrev pub AlternateWaitsAreDone : Answers → Type 0
AlternateWaitsAreDone natives = (fillers : ℕ → List Filler) (names : List (Option ℕ)) → IsDone fillers natives (op.WaitAny names)

-- several workers and futures are waited for, whose results are given as a mapping
abbrev pub MultipleWaitsAreDone : Answers → Type 0
MultipleWaitsAreDone natives = (fillers : ℕ → List Filler) (atom : ℕ) (names : List (Option ℕ)) → IsDone fillers natives (op.WaitAll atom names)
