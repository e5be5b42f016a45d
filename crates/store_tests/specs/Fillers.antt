-- Fillers: those that are there, and those of atoms.
use Rattle.std.specs.Prelude.{ℕ, Bool, true, false, List, [], Option, Some, None}
use Rattle.value_model.specs.declared.filler.Filler.{Filler}
use Rattle.value_model.specs.declared.filler.Filler.TheVariants.{Nothing, Nil as NilFiller, Bool as BoolFiller, Int as IntFiller, Str as StrFiller, List as NewList, Mapping as NewMapping}
use Rattle.op_model.specs.ProgramFacts.{own_types}
use Rattle.op_model.specs.Stores.{fixed_fillers}
use Rattle.plain_run.specs.declared.facts.ProgramFacts.{ProgramFacts}
use Rattle.plain_run.specs.ProgramFacts.{facts_of}

abbrev pub is_there : Filler → Bool
is_there Nothing = false
is_there NilFiller = true
is_there (BoolFiller b) = true
is_there (IntFiller i) = true
is_there (StrFiller t) = true
is_there (NewList a) = true
is_there (NewMapping a) = true

-- ---- fillers of atoms

abbrev pub atom_fillers : ProgramFacts → Option ℕ → List Filler
atom_fillers facts (Some a) = (facts_of facts).fillers a
atom_fillers facts None = []

-- the fillers of the fixed places of an atom of lists
abbrev pub fixed_of : ProgramFacts → ℕ → List Filler
fixed_of facts a = fixed_fillers (own_types (facts_of facts)) (facts_of facts).fillers a
