-- What a table of fillers has.
use Rattle.std.specs.Prelude.{List, [], get_or}
use Rattle.type_model.specs.declared.atoms.AtomDef.{AtomDef}
use Rattle.value_model.specs.declared.filler.Filler.{Filler}
use Rattle.list_fillers.specs.Candidates.{KnowsAllFillers}

-- by the numbers of atoms, the fillers of the places of its lists; none for an atom that is none of lists
abbrev pub IsFillerTable : List AtomDef → List (List Filler) → Type 0
IsFillerTable atoms table = KnowsAllFillers atoms (λ a. get_or table a [])
