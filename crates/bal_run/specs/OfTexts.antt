-- What a call of the top says of a program of which something is told and which doesn't run: single facts, each both ways. What is told of
-- it is written, and nothing else is.
use Rattle.std.specs.Prelude.{◌≡◌, ◌<◌, ◌⊎◌, ℕ, List, IsSome, Option, encode_utf8_all}
use Rattle.bal_base.specs.declared.fault.Refusal.{Refusal}
use Rattle.bal_io.specs.Content.{Told, Appends, AppendsFront}
use Rattle.bal_io.specs.Faults.{Rises}
use Rattle.descriptors.specs.Described.{Atoms}
use Rattle.folder_programs.specs.declared.compiling.Built.{Built}
use Rattle.status_texts.specs.declared.status.Run.{Run}
use Rattle.status_texts.specs.declared.status.Status.TheVariants.{Done, OutFault}
use Rattle.folder_programs.specs.declared.texts.Telling.{Telling}
use Rattle.bal_run.specs.Due.{StayedIdle}
use Rattle.bal_run.specs.OfBuilds.{BuildIsTold, IfBuilt, OfBuilt}
use Rattle.status_texts.specs.Outside.{Outside}
use Rattle.status_texts.specs.Report.{ComesTo}
use Rattle.folder_programs.specs.Texts.{IsTextOf}

-- what is refused is refused before anything is kept
abbrev pub NeverLate : Refusal → Type 0
NeverLate r = ⊥

-- it was told whole
abbrev pub WroteIt : Telling → Option (List ℕ) → Option (List ℕ) → Atoms → Built → Type 0
WroteIt telling before after atoms built =
    (text : List ℕ) × IsTextOf telling atoms built text × Told (Appends (encode_utf8_all text)) before after

-- nothing or a first part of it was told
abbrev pub WroteFrontOfIt : Telling → Option (List ℕ) → Option (List ℕ) → Atoms → Built → Type 0
WroteFrontOfIt telling before after atoms built =
    (after ≡ before) ⊎ ((text : List ℕ) × IsTextOf telling atoms built text × Told (AppendsFront (encode_utf8_all text)) before after)

pub record TextIsTold (telling : Telling) (before after : Outside) (run : Run) : Type 0 where
  -- what was built, or why nothing was
  pub builds : BuildIsTold NeverLate before after run
  -- nothing ran
  pub idle : StayedIdle before after run
  -- what is told of it was written; or nothing or a first part of that
  pub said : run.status ≡ Done → OfBuilt before.folder.files run.built (WroteIt telling before.out.written after.out.written)
  pub front : IfBuilt before.folder.files run.built (WroteFrontOfIt telling before.out.written after.out.written)
  pub done_due : IsSome run.built → ¬ (Rises before.out.faults after.out.faults) → ComesTo Done run.status
  -- the output failed
  pub out_fault : run.status ≡ OutFault → IsSome run.built × Rises before.out.faults after.out.faults
  pub out_due : before.out.faults < after.out.faults → ComesTo OutFault run.status
