-- What a call of the top says of the diagnostics: their count, and what they gained.
use Rattle.std.specs.Prelude.{◌≡◌, ◌≢◌, ◌⊎◌, ⊤, List, [], Option, String}
use Rattle.std.specs.Global.{Global}
use Rattle.bal_tree.specs.declared.package.Module.{Module}
use Rattle.status_texts.specs.declared.status.Status.{Status}
use Rattle.status_texts.specs.declared.status.Status.TheVariants.{Done, ErrorReturned, Panicked, Refused, GoesOn, Stalled, FolderFault, InputFault, OutFault, Memory, Words, Limit, DiagFault}
use Rattle.status_texts.specs.Outside.{Files, SinkTells}
use Rattle.folder_programs.specs.Programs.{IsRefusalOf}
use Rattle.status_texts.specs.Report.{CountsDiagFaults, IsToldWhole, WroteFrontOfText, WroteFrontsOfTexts, WroteText}
use Rattle.folder_programs.specs.Runs.{too_large}
use Rattle.bal_run.specs.Words.{Builds}

module _ (words : List (String Global)) (folder : Option Files) where
  -- the modules in whose files the events are found that a status shows: for a program that is refused for its source those of that, and
  -- else none; a status that is no refusal shows no events
  abbrev pub AreShown : Status → List Module → Type 0
  AreShown (Refused r) modules = (Builds words × IsRefusalOf folder r modules) ⊎ (((r ≡ too_large) ⊎ ¬ (Builds words)) × (modules ≡ []))
  AreShown Done modules = ⊤
  AreShown (ErrorReturned m) modules = ⊤
  AreShown (Panicked m) modules = ⊤
  AreShown (GoesOn n) modules = ⊤
  AreShown (Stalled ring) modules = ⊤
  AreShown FolderFault modules = ⊤
  AreShown InputFault modules = ⊤
  AreShown OutFault modules = ⊤
  AreShown Memory modules = ⊤
  AreShown Words modules = ⊤
  AreShown (Limit k) modules = ⊤
  AreShown DiagFault modules = ⊤

  -- the whole text of this status was written
  abbrev pub IsTextWritten : Status → SinkTells → SinkTells → Type 0
  IsTextWritten status before after =
      (modules : List Module) × AreShown status modules × WroteText modules status before.written after.written

  -- some first part of the text of a status, which is neither want of memory nor that of a program that is done
  abbrev pub IsTextCut : SinkTells → SinkTells → Type 0
  IsTextCut before after =
      (due : Status) × (modules : List Module) × AreShown due modules × (due ≢ Done) × (due ≢ Memory)
      × WroteFrontOfText modules due before.written after.written

  -- some first part of the text of a status, and then some first part of that of want of memory
  abbrev pub AreTextsCut : SinkTells → SinkTells → Type 0
  AreTextsCut before after =
      (due : Status) × (modules : List Module) × AreShown due modules × (due ≢ Done) × WroteFrontsOfTexts modules due before.written after.written

  -- where main returned nil they are not written to
  pub record AreDiagnosticsTold (status : Status) (before after : SinkTells) : Type 0 where
    pub counts : CountsDiagFaults status before.faults after.faults
    pub done : status ≡ Done → after.written ≡ before.written
    pub text : IsToldWhole status → IsTextWritten status before after
    pub cut : status ≡ DiagFault → IsTextCut before after
    pub memory : status ≡ Memory → AreTextsCut before after
