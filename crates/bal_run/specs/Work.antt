-- The steps of the work.
use Rattle.std.specs.Prelude.{◌≡◌, ◌≤◌, ⊤, Result, Ok, Err, None, String, length, string_bytes}
use Rattle.std.specs.Global.{Global}
use Rattle.bal_base.specs.declared.stop.Memory.{Memory as NoMemory}
use Rattle.bal_base.specs.declared.stop.Stop.{Stop}
use Rattle.bal_base.specs.declared.stop.Stop.TheVariants.{Memory as OutOfMemory, Fault}
use Rattle.command_words.specs.Commands.{Purpose}
use Rattle.command_words.specs.Commands as command
use Rattle.command_words.specs.declared.command.TheConstants.{MOST_WORD_BYTES}
use Rattle.machine_model.specs.Runs.{AreWords}
use Rattle.folder_programs.specs.declared.packages.AnswerFault.{AnswerFault}
use Rattle.folder_programs.specs.declared.packages.AnswerFault.TheVariants.{Folder, Source}
use Rattle.folder_programs.specs.declared.compiling.CompileFault.{CompileFault}
use Rattle.folder_programs.specs.declared.compiling.CompileFault.TheVariants as compile
use Rattle.status_texts.specs.declared.status.Run.{Run}
use Rattle.status_texts.specs.declared.status.Status.{Status}
use Rattle.bal_run.specs.declared.top.Worked.{Worked}
use Rattle.status_texts.specs.declared.status.Status.TheVariants.{Refused, FolderFault, Memory}
use Rattle.bal_run.specs.Due.{IsWritten, NoMemoryForText}
use Rattle.status_texts.specs.Outside.{SinkTells}

-- what a good command asks for is fit to be done: words for main, or two types
abbrev pub IsFit : Purpose → Type 0
IsFit (command.Run texts) = AreWords texts
IsFit command.Check = ⊤
IsFit command.Pairs = ⊤
IsFit command.Code = ⊤
IsFit (command.Subtype s t) = (length s ≤ MOST_WORD_BYTES) × (length t ≤ MOST_WORD_BYTES)

-- the status of a folder in which a question has no answer
abbrev pub IsStatusUnanswered : Stop AnswerFault → Status → Type 0
IsStatusUnanswered OutOfMemory status = status ≡ Memory
IsStatusUnanswered (Fault Folder) status = status ≡ FolderFault
IsStatusUnanswered (Fault (Source refusal)) status = status ≡ Refused refusal

-- what was done, where nothing ran
abbrev pub not_run : Status → Run
not_run status = record { status = status; built = None; turns = 0; spent = 0 }

-- how writing a text ended, which may want memory before
abbrev pub IsMadeWritten : Result (String Global) NoMemory → SinkTells → SinkTells → Status → Type 0
IsMadeWritten (Ok text) before after status = IsWritten (string_bytes text) before after status
IsMadeWritten (Err m) before after status = NoMemoryForText before after status

-- what was done of a folder that does not compile
abbrev pub IsWorkOf : Stop CompileFault → Worked → Type 0
IsWorkOf OutOfMemory work = work ≡ record { run = not_run Memory; source = None }
IsWorkOf (Fault compile.Folder) work = work ≡ record { run = not_run FolderFault; source = None }
IsWorkOf (Fault (compile.Source x)) work = work ≡ record { run = not_run (Refused x.refusal); source = x.source }
