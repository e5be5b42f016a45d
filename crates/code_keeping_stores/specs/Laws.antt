-- What steps of well-typed code keep that store into structures, as laws.
use Rattle.std.specs.Prelude.{ℕ, List}
use Rattle.operations.specs.declared.operation.Operation.TheVariants as op
use Rattle.value_model.specs.declared.filler.Filler.{Filler}
use Rattle.value_model.specs.Meaning.{Answers}
use Rattle.code_keeping.specs.Laws.{IsDone}

-- members of mappings are stored
abbrev pub KeyStoresAreDone : Answers → Type 0
KeyStoresAreDone natives = (fillers : ℕ → List Filler) → IsDone fillers natives op.SetKey
