-- How the status that is due becomes the answer: its text is written to the diagnostics, which may fail, and memory may run
-- out.
use Rattle.std.specs.Prelude.{◌≡◌, ◌≢◌, ◌⊎◌, ◌++◌, ⊤, ℕ, List, Option}
use Rattle.bal_io.specs.Content.{Told, Appends, AppendsFront, IsPrefixOf}
use Rattle.bal_io.specs.Faults.{Rises}
use Rattle.bal_base.specs.declared.fault.Refusal.{Refusal}
use Rattle.status_texts.specs.declared.status.Status.{Status}
use Rattle.status_texts.specs.declared.status.Status.TheVariants.{Done, ErrorReturned, Panicked, Refused, GoesOn, Stalled, FolderFault, InputFault, OutFault, Memory, Words, Limit, DiagFault}
use Rattle.bal_tree.specs.declared.package.Module.{Module}
use Rattle.status_texts.specs.Outside.{SinkTells}
use Rattle.status_texts.specs.Status.{HasText}

-- the status has a text
abbrev pub CanReport : Status → Type 0
CanReport DiagFault = ⊥
CanReport _ = ⊤

-- the statuses that say the same each time
abbrev pub HasFixedText : Status → Type 0
HasFixedText Done = ⊤
HasFixedText (ErrorReturned m) = ⊥
HasFixedText (Panicked m) = ⊥
HasFixedText (Refused r) = ⊥
HasFixedText (GoesOn n) = ⊥
HasFixedText (Stalled r) = ⊥
HasFixedText FolderFault = ⊤
HasFixedText InputFault = ⊤
HasFixedText OutFault = ⊤
HasFixedText Memory = ⊤
HasFixedText Words = ⊤
HasFixedText (Limit k) = ⊤
HasFixedText DiagFault = ⊥

-- the statuses that say what came
abbrev pub HasMadeText : Status → Type 0
HasMadeText Done = ⊥
HasMadeText (ErrorReturned m) = ⊤
HasMadeText (Panicked m) = ⊤
HasMadeText (Refused r) = ⊤
HasMadeText (GoesOn n) = ⊤
HasMadeText (Stalled r) = ⊤
HasMadeText FolderFault = ⊥
HasMadeText InputFault = ⊥
HasMadeText OutFault = ⊥
HasMadeText Memory = ⊥
HasMadeText Words = ⊥
HasMadeText (Limit k) = ⊥
HasMadeText DiagFault = ⊥

-- some first part of the one text, and then some first part of the other were appended
abbrev pub AppendsFronts : List ℕ → List ℕ → List ℕ → List ℕ → Type 0
AppendsFronts text other old new =
    (first : List ℕ) × (second : List ℕ) × IsPrefixOf first text × IsPrefixOf second other × (new ≡ old ++ (first ++ second))

-- the modules in whose files the events are found that a text shows
module _ (modules : List Module) where
  -- the whole text of the status was written
  abbrev pub WroteText : Status → Option (List ℕ) → Option (List ℕ) → Type 0
  WroteText status before after = (text : List ℕ) × HasText modules status text × Told (Appends text) before after

  -- some first part of the text of the status was written
  abbrev pub WroteFrontOfText : Status → Option (List ℕ) → Option (List ℕ) → Type 0
  WroteFrontOfText status before after = (text : List ℕ) × HasText modules status text × Told (AppendsFront text) before after

  -- some first part of the text of the status was written, and then some first part of that of want of memory
  abbrev pub WroteFrontsOfTexts : Status → Option (List ℕ) → Option (List ℕ) → Type 0
  WroteFrontsOfTexts status before after =
      (text : List ℕ) × (other : List ℕ) × HasText modules status text × HasText modules Memory other × Told (AppendsFronts text other) before after

  -- the text was written, and the due status is the answer
  pub record ReportedWhole (due status : Status) (before after : SinkTells) : Type 0 where
    pub answer : status ≡ due
    pub no_memory : due ≢ Memory
    pub faults : after.faults ≡ before.faults
    pub written : WroteText due before.written after.written

  -- the diagnostics failed in the text; that of want of memory makes no difference, and a program that is done has none
  pub record ReportFailed (due status : Status) (before after : SinkTells) : Type 0 where
    pub answer : status ≡ DiagFault
    pub no_memory : due ≢ Memory
    pub not_done : due ≢ Done
    pub faults : Rises before.faults after.faults
    pub written : WroteFrontOfText due before.written after.written

  -- memory ran out, before the text or in it, which was told as far as the diagnostics took it
  pub record ReportedMemory (due status : Status) (before after : SinkTells) : Type 0 where
    pub answer : status ≡ Memory
    pub not_done : due ≢ Done
    pub faults : (after.faults ≡ before.faults) ⊎ Rises before.faults after.faults
    pub written :
        ((due ≡ Memory) × WroteFrontOfText Memory before.written after.written)
        ⊎ ((due ≢ Memory) × WroteFrontsOfTexts due before.written after.written)

  abbrev pub Reports : Status → Status → SinkTells → SinkTells → Type 0
  Reports due status before after =
      ReportedWhole due status before after ⊎ (ReportFailed due status before after ⊎ ReportedMemory due status before after)

-- ---- single facts of it

-- the due status is the answer, unless memory ran out, or the diagnostics failed in its text; a program that is done has none
abbrev pub ComesTo : Status → Status → Type 0
ComesTo due status = (status ≡ due) ⊎ ((status ≡ Memory) ⊎ ((status ≡ DiagFault) × (due ≢ Done)))

-- the program is refused so, unless the folder failed, or what else comes in its place
abbrev pub ComesToRefusal : Refusal → Status → Type 0
ComesToRefusal refusal status = ComesTo (Refused refusal) status ⊎ ComesTo FolderFault status

-- the count of faults of the diagnostics rose where the status is theirs, and stayed where it is neither theirs nor
-- want of memory
abbrev pub CountsDiagFaults : Status → ℕ → ℕ → Type 0
CountsDiagFaults DiagFault old new = Rises old new
CountsDiagFaults Memory old new = (new ≡ old) ⊎ Rises old new
CountsDiagFaults Done old new = new ≡ old
CountsDiagFaults (ErrorReturned m) old new = new ≡ old
CountsDiagFaults (Panicked m) old new = new ≡ old
CountsDiagFaults (Refused r) old new = new ≡ old
CountsDiagFaults (GoesOn n) old new = new ≡ old
CountsDiagFaults (Stalled r) old new = new ≡ old
CountsDiagFaults FolderFault old new = new ≡ old
CountsDiagFaults InputFault old new = new ≡ old
CountsDiagFaults OutFault old new = new ≡ old
CountsDiagFaults Words old new = new ≡ old
CountsDiagFaults (Limit k) old new = new ≡ old

-- the statuses whose text is always told whole
abbrev pub IsToldWhole : Status → Type 0
IsToldWhole status = (status ≢ Memory) × (status ≢ DiagFault)
