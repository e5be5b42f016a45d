-- What steps of well-typed code keep that store into lists, as laws.
use Rattle.std.specs.Prelude.{ℕ, List}
use Rattle.operations.specs.declared.operation.Operation.TheVariants as op
use Rattle.value_model.specs.declared.filler.Filler.{Filler}
use Rattle.value_model.specs.Meaning.{Answers}
use Rattle.op_model.specs.Common.{Common}
use Rattle.op_model.specs.ProgramFacts.{KnowsFillers}
use Rattle.stack_code.specs.declared.code.Code.{Code}
use Rattle.stack_code.specs.CodeMachine.{code_facts}
use Rattle.stack_code.specs.WellTyped.{WellTyped}
use Rattle.code_keeping.specs.Laws.{IsDoneAt}

-- items of lists are stored, where the fillers are those of the inherent atoms' places: behind the end of a list the gap is filled
abbrev pub ItemStoresAreDone : Answers → Type 0
ItemStoresAreDone natives =
    (fillers : ℕ → List Filler) (code : Code) (c : Common) → WellTyped code → KnowsFillers (code_facts fillers code) code.inherent → IsDoneAt fillers natives code c op.SetItem
