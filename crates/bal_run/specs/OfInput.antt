-- What a call of the top says of the input.
use Rattle.descriptors.specs.Described.{Atoms}
use Rattle.input_calls.specs.Calls.{CallsReadln}
use Rattle.folder_programs.specs.declared.compiling.Built.{Built}
use Rattle.status_texts.specs.declared.status.Run.{Run}
use Rattle.bal_run.specs.OfBuilds.{OfBuilt}
use Rattle.status_texts.specs.Outside.{IsAsBefore, Outside}

-- the program calls `io:readln` somewhere
abbrev pub Asks : Atoms → Built → Type 0
Asks atoms built = CallsReadln built.typed

-- it is asked only where a program was built that calls `io:readln` anywhere
pub record IsInputTold (before after : Outside) (run : Run) : Type 0 where
  pub untouched : ¬ (OfBuilt before.folder.files run.built Asks) → IsAsBefore before.input after.input
