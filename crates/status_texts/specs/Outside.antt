-- The scene of a call: what the folder, the input and the output tell before it and after it.
use Rattle.std.specs.Prelude.{◌≡◌, ℕ, List, Option}

-- how many calls of a sink failed, and what was written
pub record SinkTells : Type 0 where
  pub faults : ℕ
  pub written : Option (List ℕ)

abbrev pub sink_tells : ℕ → Option (List ℕ) → SinkTells
sink_tells faults written = record { faults = faults; written = written }

-- how many calls of an input failed, and what is left of it
pub record SourceTells : Type 0 where
  pub faults : ℕ
  pub rest : Option (List ℕ)

abbrev pub source_tells : ℕ → Option (List ℕ) → SourceTells
source_tells faults rest = record { faults = faults; rest = rest }

-- files by number, each with its name and its bytes
abbrev pub Files : Type 0
Files = List (List ℕ × List ℕ)

-- how many calls of a folder failed, and its files
pub record FolderTells : Type 0 where
  pub faults : ℕ
  pub files : Option Files

abbrev pub folder_tells : ℕ → Option Files → FolderTells
folder_tells faults files = record { faults = faults; files = files }

pub record Outside : Type 0 where
  pub folder : FolderTells
  pub input : SourceTells
  pub out : SinkTells

abbrev pub outside : FolderTells → SourceTells → SinkTells → Outside
outside f i o = record { folder = f; input = i; out = o }

-- an input that wasn't touched
abbrev pub IsAsBefore : SourceTells → SourceTells → Type 0
IsAsBefore before after = (after.rest ≡ before.rest) × (after.faults ≡ before.faults)
