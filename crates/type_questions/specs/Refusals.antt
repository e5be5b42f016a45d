-- Faults with their places as people read them: in a file of the package, or in a word of the command.
use Rattle.std.specs.Prelude.{◌==◌, ◌+◌, ℕ, List, [], Option, Some, None, chars, codes, encode_utf8_all, if◌then◌else◌, take}
use Rattle.bal_base.specs.Place.{line_after, column_after}
use Rattle.bal_base.specs.declared.fault.Fault.{Fault}
use Rattle.bal_base.specs.declared.fault.Refusal.{Refusal}
use Rattle.bal_base.specs.declared.place.Place.{Place}
use Rattle.bal_tree.specs.Files.{file_in}
use Rattle.bal_tree.specs.declared.package.Module.{Module}
use Rattle.bal_tree.specs.declared.package.SourceFile.{SourceFile}

-- a name and the bytes that stand under it
pub record Source : Type 0 where
  pub name : List ℕ
  pub text : List ℕ

abbrev pub source : List ℕ → List ℕ → Source
source name text = record { name = name; text = text }

-- the two words, of which the first has this number
abbrev pub word_at : ℕ → List ℕ → List ℕ → ℕ → Option Source
word_at first s t n =
    if n == first then Some (source (codes "argument 1") s) else if n == first + 1 then Some (source (codes "argument 2") t) else None

abbrev pub file_or : Option Source → Option SourceFile → Option Source
file_or words None = words
file_or words (Some file) = Some (source file.name (encode_utf8_all file.text))

-- the files of these modules, or else the words, of which the first has this number
abbrev pub source_at : List Module → ℕ → List ℕ → List ℕ → ℕ → Option Source
source_at modules first s t n = file_or (word_at first s t n) (file_in n modules)

-- the fault without a place
abbrev pub unplaced : Fault → Refusal
unplaced fault = record { fault = fault; file = []; line = 0; column = 0 }

abbrev pub placed_in : Fault → ℕ → Option Source → Refusal
placed_in fault at None = unplaced fault
placed_in fault at (Some here) =
    record { fault = fault; file = here.name; line = line_after (chars (take at here.text)); column = column_after (chars (take at here.text)) }

module _ (modules : List Module) (first : ℕ) (s t : List ℕ) (fault : Fault) where
  abbrev pub told_at : Option Place → Refusal
  told_at None = unplaced fault
  told_at (Some place) = placed_in fault place.at (source_at modules first s t place.file)

  -- the refusal that the fault is
  abbrev pub refusal_of : Refusal
  refusal_of = told_at fault.at
