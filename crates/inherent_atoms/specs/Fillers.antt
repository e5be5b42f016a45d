-- With what the gaps of a list may be filled: what has one constructor choice.
use Rattle.std.specs.Prelude.{◌++◌, ℕ, List, [], ◌∷◌, Option, Some, None, flat_map, option_to_list}
use Rattle.type_model.specs.declared.basic.Choice.{Choice}
use Rattle.type_model.specs.declared.basic.Ty.{Ty}
use Rattle.type_model.specs.declared.atoms.AtomDef.{AtomDef}
use Rattle.type_model.specs.declared.atoms.AtomDef.TheVariants.{List as ListAtom, Mapping as MappingAtom, Arrow, Error as ErrorAtom, Future as FutureAtom}

-- the atom of the one choice among lists and mappings
abbrev pub one_choice : List Choice → List Choice → List ℕ
one_choice [] [] = []
one_choice [] (c ∷ []) = c.atom ∷ []
one_choice [] (c ∷ d ∷ more) = []
one_choice (c ∷ []) [] = c.atom ∷ []
one_choice (c ∷ []) (d ∷ more) = []
one_choice (c ∷ d ∷ more) maps = []

abbrev pub choice_of : Ty → List ℕ
choice_of t = one_choice t.lists t.maps

-- of the members of a list
abbrev pub fillers_of : Option AtomDef → List ℕ
fillers_of (Some (ListAtom fixed rest)) = flat_map choice_of fixed ++ flat_map choice_of (option_to_list rest)
fillers_of (Some (MappingAtom fields rest)) = []
fillers_of (Some (Arrow args outcome alone)) = []
fillers_of (Some (ErrorAtom detail)) = []
fillers_of (Some (FutureAtom outcome)) = []
fillers_of None = []
