-- The status that is due of a call of the top: why, what was built and written, and the modules in whose files the events are found that
-- it shows. A call comes to its end at the words, at the folder, in the run, with a text of what was built or with a question, and there is a
-- record for each way.
use Rattle.std.specs.Prelude.{◌≡◌, ◌⊎◌, ℕ, List, [], Some, None, String, encode_utf8_all}
use Rattle.std.specs.Global.{Global}
use Rattle.bal_base.specs.declared.fault.Refusal.{Refusal}
use Rattle.bal_base.specs.declared.text.Text.{Text}
use Rattle.bal_io.specs.Content.{Told, Appends, AppendsFront}
use Rattle.bal_io.specs.Faults.{Rises}
use Rattle.bal_tree.specs.declared.package.Module.{Module}
use Rattle.command_words.specs.Commands.{IsCommand, IsGood, Purpose, Request}
use Rattle.command_words.specs.Commands as command
use Rattle.descriptors.specs.Described.{Atoms}
use Rattle.input_calls.specs.Calls.{CallsReadln}
use Rattle.type_model.specs.declared.answers.Answer.{Answer}
use Rattle.folder_programs.specs.declared.compiling.Built.{Built}
use Rattle.status_texts.specs.declared.status.Run.{Run}
use Rattle.status_texts.specs.declared.status.Status.{Status}
use Rattle.status_texts.specs.declared.status.Status.TheVariants.{Done, Refused, FolderFault, OutFault, Memory, Words}
use Rattle.folder_programs.specs.declared.texts.Telling.{Telling}
use Rattle.folder_programs.specs.declared.texts.Telling.TheVariants.{Accepted, Pairs, Code}
use Rattle.status_texts.specs.Outside.{FolderTells, IsAsBefore, Outside, SinkTells}
use Rattle.folder_programs.specs.Runs.{sides, RunEnded}
use Rattle.folder_programs.specs.Programs.{IsBuiltOf, IsRefusalOf}
use Rattle.folder_programs.specs.Questions.{IsAnswerOf, IsQuestionRefused, answer_bytes}
use Rattle.folder_programs.specs.Texts.{IsTextOf}

-- ---- at the words

-- nothing was built and nothing ran, and so nothing was read or written
pub record NothingRan (before after : Outside) (run : Run) : Type 0 where
  pub built : run.built ≡ None
  pub turns : run.turns ≡ 0
  pub spent : run.spent ≡ 0
  pub input : IsAsBefore before.input after.input
  pub faults : after.out.faults ≡ before.out.faults
  pub written : after.out.written ≡ before.out.written

-- the words are no good command, and so the folder isn't read
pub record BadWords (words : List (String Global)) (before after : Outside) (run : Run) (modules : List Module) (status : Status) : Type 0 where
  pub due : status ≡ Words
  pub bad : ¬ (IsGood words)
  pub folder : after.folder.faults ≡ before.folder.faults
  pub shows : modules ≡ []
  pub nothing : NothingRan before after run

-- memory ran out over the words, and so the folder isn't read
pub record NoMemoryForWords (before after : Outside) (run : Run) (modules : List Module) (status : Status) : Type 0 where
  pub due : status ≡ Memory
  pub folder : after.folder.faults ≡ before.folder.faults
  pub shows : modules ≡ []
  pub nothing : NothingRan before after run

-- ---- at the folder

-- why a folder came to no program: it failed, it is refused, or memory ran out
abbrev pub FolderFails : FolderTells → FolderTells → Status → Type 0
FolderFails before after status = (status ≡ FolderFault) × Rises before.faults after.faults

abbrev pub FolderRefused : FolderTells → FolderTells → List Module → Status → Type 0
FolderRefused before after modules status =
    (r : Refusal) × (status ≡ Refused r) × IsRefusalOf before.files r modules × (after.faults ≡ before.faults)

abbrev pub NoMemoryToBuild : FolderTells → FolderTells → Status → Type 0
NoMemoryToBuild before after status = (status ≡ Memory) × (after.faults ≡ before.faults)

abbrev pub NotBuilt : FolderTells → FolderTells → List Module → Status → Type 0
NotBuilt before after modules status =
    FolderFails before after status ⊎ (FolderRefused before after modules status ⊎ NoMemoryToBuild before after status)

-- the folder came to no program
pub record BadFolder (before after : Outside) (run : Run) (modules : List Module) (status : Status) : Type 0 where
  pub cause : NotBuilt before.folder after.folder modules status
  pub nothing : NothingRan before after run

-- the folder did not fail, and came to what is kept
pub record WasBuilt (before after : Outside) (run : Run) : Type 0 where
  pub built : Built
  pub atoms : Atoms
  pub compiled : IsBuiltOf before.folder.files built atoms
  pub folder : after.folder.faults ≡ before.folder.faults
  pub kept : run.built ≡ Some built.source

-- ---- in the run

-- what was built ran, by these words, ticks and this seed; an input for which it doesn't ask wasn't touched
pub record ProgramRan (texts : List Text) (ticks seed : ℕ) (before after : Outside) (run : Run) (modules : List Module) (status : Status) : Type 0 where
  pub program : WasBuilt before after run
  pub cause :
      RunEnded program.atoms program.built.typed texts ticks seed (sides before.input before.out) (sides after.input after.out) run status
  pub untouched : ¬ CallsReadln program.built.typed → IsAsBefore before.input after.input
  pub shows : modules ≡ []

-- ---- what is written

-- how writing a text ended: it is written, the output failed, or memory ran out
abbrev pub IsWhole : List ℕ → SinkTells → SinkTells → Status → Type 0
IsWhole text before after status = (status ≡ Done) × (after.faults ≡ before.faults) × Told (Appends text) before.written after.written

abbrev pub IsCut : List ℕ → SinkTells → SinkTells → Status → Type 0
IsCut text before after status =
    (status ≡ OutFault) × Rises before.faults after.faults × Told (AppendsFront text) before.written after.written

abbrev pub NoMemoryToWrite : List ℕ → SinkTells → SinkTells → Status → Type 0
NoMemoryToWrite text before after status =
    (status ≡ Memory) × (after.faults ≡ before.faults) × Told (AppendsFront text) before.written after.written

abbrev pub IsWritten : List ℕ → SinkTells → SinkTells → Status → Type 0
IsWritten text before after status =
    IsWhole text before after status ⊎ (IsCut text before after status ⊎ NoMemoryToWrite text before after status)

-- nothing ran, and the input wasn't touched
pub record StayedIdle (before after : Outside) (run : Run) : Type 0 where
  pub turns : run.turns ≡ 0
  pub spent : run.spent ≡ 0
  pub input : IsAsBefore before.input after.input

-- ---- with a text of what was built

-- memory ran out before there was a text, and so nothing was written
abbrev pub NoMemoryForText : SinkTells → SinkTells → Status → Type 0
NoMemoryForText before after status = (status ≡ Memory) × (after.faults ≡ before.faults) × (after.written ≡ before.written)

-- how telling one of these texts ended
abbrev pub IsTextTold : (List ℕ → Type 0) → SinkTells → SinkTells → Status → Type 0
IsTextTold IsOne before after status =
    ((text : List ℕ) × IsOne text × IsWritten (encode_utf8_all text) before after status) ⊎ NoMemoryForText before after status

-- the folder came to a program, which didn't run, and this was told of it
pub record ProgramTold (telling : Telling) (before after : Outside) (run : Run) (modules : List Module) (status : Status) : Type 0 where
  pub program : WasBuilt before after run
  pub told : IsTextTold (IsTextOf telling program.atoms program.built) before.out after.out status
  pub idle : StayedIdle before after run
  pub shows : modules ≡ []

-- the folder came to no program, or to one of which this was told
abbrev pub TellingEnded : Telling → Outside → Outside → Run → List Module → Status → Type 0
TellingEnded telling before after run modules status =
    BadFolder before after run modules status ⊎ ProgramTold telling before after run modules status

-- ---- with a question

-- the question has this answer in the folder, and its text was written so
pub record IsAnswered (s t : List ℕ) (before after : Outside) (status : Status) : Type 0 where
  pub answer : Answer
  pub has : IsAnswerOf before.folder.files s t answer
  pub folder : after.folder.faults ≡ before.folder.faults
  pub written : IsWritten (answer_bytes answer) before.out after.out status

-- the question is refused
abbrev pub QuestionRefused : List ℕ → List ℕ → FolderTells → FolderTells → Status → Type 0
QuestionRefused s t before after status =
    (r : Refusal) × (status ≡ Refused r) × IsQuestionRefused before.files s t r × (after.faults ≡ before.faults)

-- it has no answer, and nothing was written: the folder failed, the question is refused, or memory ran out
pub record HasNoAnswer (s t : List ℕ) (before after : Outside) (status : Status) : Type 0 where
  pub cause :
      FolderFails before.folder after.folder status
      ⊎ (QuestionRefused s t before.folder after.folder status ⊎ NoMemoryToBuild before.folder after.folder status)
  pub faults : after.out.faults ≡ before.out.faults
  pub written : after.out.written ≡ before.out.written

abbrev pub QuestionEnded : List ℕ → List ℕ → Outside → Outside → Status → Type 0
QuestionEnded s t before after status = IsAnswered s t before after status ⊎ HasNoAnswer s t before after status

-- the question ended so; nothing is built and the input isn't touched
pub record Questioned (s t : List ℕ) (before after : Outside) (run : Run) (modules : List Module) (status : Status) : Type 0 where
  pub ended : QuestionEnded s t before after status
  pub built : run.built ≡ None
  pub idle : StayedIdle before after run
  pub shows : modules ≡ []

-- ---- the status that is due

-- what comes of a good command, by what it asks for, its ticks and its seed
abbrev pub Obeyed : Purpose → ℕ → ℕ → Outside → Outside → Run → List Module → Status → Type 0
Obeyed (command.Run texts) ticks seed before after run modules status =
    BadFolder before after run modules status ⊎ ProgramRan texts ticks seed before after run modules status
Obeyed command.Check ticks seed before after run modules status = TellingEnded Accepted before after run modules status
Obeyed command.Pairs ticks seed before after run modules status = TellingEnded Pairs before after run modules status
Obeyed command.Code ticks seed before after run modules status = TellingEnded Code before after run modules status
Obeyed (command.Subtype s t) ticks seed before after run modules status = Questioned s t before after run modules status

-- the words are a command, of which this came
pub record CommandObeyed (words : List (String Global)) (before after : Outside) (run : Run) (modules : List Module) (status : Status) : Type 0 where
  pub request : Request
  pub is : IsCommand words request
  pub obeyed : Obeyed request.purpose request.ticks request.seed before after run modules status

abbrev pub StatusIsDue : List (String Global) → Outside → Outside → Run → List Module → Status → Type 0
StatusIsDue words before after run modules status =
    BadWords words before after run modules status
    ⊎ (NoMemoryForWords before after run modules status ⊎ CommandObeyed words before after run modules status)
