-- What comes of a call: an answer of the top call on the objects of the case, and what is seen of it.
use Rattle.std.specs.Prelude.{◌≡◌, ◌↔◌, [], List, Option, Some, IfSome, IsSome, String, string_bytes}
use Rattle.std.specs.Global.{Global}
use Rattle.bal_io.specs.Held.{HeldFolder, HeldInput, HeldOutput}
use Rattle.bal_tree.specs.declared.package.Module.{Module}
use Rattle.command_words.specs.Commands.{IsGood}
use Rattle.bal_run.specs.Due.{StatusIsDue}
use Rattle.status_texts.specs.Outside.{FolderTells, SinkTells, SourceTells, folder_tells, outside, sink_tells, source_tells}
use Rattle.status_texts.specs.Report.{Reports}
use Rattle.status_texts.specs.Status.{exit_status}
use Rattle.bal_run.specs.Words.{IsOfFolder}
use Rattle.status_texts.specs.declared.status.Run.{Run}
use Rattle.status_texts.specs.declared.status.Status.{Status}
use Rattle.run_cases.specs.declared.came.Came.{Came}
use Rattle.run_cases.specs.declared.case.Call.{Call}

-- the status as a number, what stands in both outputs, and the counts
abbrev pub IsSeenOf : Run → HeldOutput → HeldOutput → Came → Type 0
IsSeenOf run out diag came =
    (came.status ≡ exit_status run.status)
    × (came.stdout.items ≡ out.written)
    × (came.stderr.items ≡ diag.written)
    × (came.counts.spent ≡ run.spent)
    × (came.counts.turns ≡ run.turns)

-- what a folder, an input and an output in memory tell
abbrev pub folder_told : HeldFolder → FolderTells
folder_told folder = folder_tells folder.calls.faults (Some folder.files)

abbrev pub source_told : HeldInput → SourceTells
source_told input = source_tells input.calls.faults (Some input.rest)

abbrev pub sink_told : HeldOutput → SinkTells
sink_told sink = sink_tells sink.calls.faults (Some sink.written)

-- the outputs before a call
abbrev pub nothing_told : SinkTells
nothing_told = sink_tells 0 (Some [])

-- the run, and what the outside tells after it, are those of an answer that the top call may give to these words, files and
-- input: a status was due, and was told
pub record IsAnswerTo (call : Call) (run : Run) (out diag : HeldOutput) : Type 0 where
  pub folder : HeldFolder
  pub input : HeldInput
  pub shown : List Module
  pub due : Status
  pub cause :
      StatusIsDue call.words.items (outside (folder_tells 0 (Some call.files.items)) (source_tells 0 (Some call.input.items)) nothing_told)
      (outside (folder_told folder) (source_told input) (sink_told out)) run shown due
  pub told : Reports shown due run.status nothing_told (sink_told diag)

-- the folder that the words name, if they are a good command
pub record IsNamed (words : List (String Global)) (dir : Option (String Global)) : Type 0 where
  pub name : IfSome dir (λ name. IsOfFolder words (string_bytes name))
  pub good : IsSome dir ↔ IsGood words

-- what is seen of some such answer, and the folder that the words name
pub record IsCameOf (call : Call) (came : Came) : Type 0 where
  pub run : Run
  pub out : HeldOutput
  pub diag : HeldOutput
  pub answer : IsAnswerTo call run out diag
  pub seen : IsSeenOf run out diag came
  pub named : IsNamed call.words.items came.dir
