-- Which atoms are named by what is made for units, and lists of atoms without repetition.
use Rattle.std.specs.Prelude.{◌==◌, ◌++◌, ℕ, List, [], ◌∷◌, Option, Some, None, flat_map, if◌then◌else◌, option_to_list, slice_get}
use Rattle.std.specs.List.{list_any}
use Rattle.std.specs.Prelude.{Bool}
use Rattle.operations.specs.Uses.{Use, MakesStructure, CallsUnit, StartsUnit, MakesFunction, NoUse, use_of}
use Rattle.typed_tree.specs.Units.{UnitTree}
use Rattle.stack_code.specs.Commands.{Command, Do, GoTo, GoToIfNot, OpenTrap, CloseTrap}

-- what a command uses
abbrev pub use_at : Command → Use
use_at (Do op) = use_of op
use_at (GoTo l) = NoUse
use_at (GoToIfNot l) = NoUse
use_at (OpenTrap l) = NoUse
use_at CloseTrap = NoUse

-- a unit's own atoms, of which its function values and futures are made
abbrev pub own_atoms : Option UnitTree → List ℕ
own_atoms (Some u) = u.unit.arrow ∷ u.unit.future ∷ []
own_atoms None = []

-- with which a structure is made, and the own atoms of a unit that is started or made a function value, by these units
abbrev pub atoms_named : List UnitTree → Use → List ℕ
atoms_named us (MakesStructure atom) = option_to_list atom
atoms_named us (CallsUnit unit) = []
atoms_named us (StartsUnit unit) = own_atoms (slice_get us unit)
atoms_named us (MakesFunction unit) = own_atoms (slice_get us unit)
atoms_named us NoUse = []

abbrev pub steps_named : List UnitTree → List Command → List ℕ
steps_named us cs = flat_map (λ c. atoms_named us (use_at c)) cs

-- of the lists of rest parameters
abbrev pub rests_named : List UnitTree → List ℕ
rests_named us = flat_map (λ u. option_to_list u.unit.rest) us

-- of the list of main's arguments, where main has a parameter
abbrev pub words_named : Option UnitTree → ℕ → List ℕ
words_named (Some u) words = if u.unit.params == 0 then [] else words ∷ []
words_named None words = []

abbrev pub all_named : List UnitTree → List Command → ℕ → ℕ → List ℕ
all_named us cs start words = steps_named us cs ++ (rests_named us ++ words_named (slice_get us start) words)

-- ---- lists without repetition

abbrev pub is_among : ℕ → List ℕ → Bool
is_among a found = list_any (λ b. b == a) found

-- one more, where it isn't there yet
abbrev pub noted : ℕ → List ℕ → List ℕ
noted a found = if is_among a found then found else found ++ a ∷ []

abbrev pub all_noted : List ℕ → List ℕ → List ℕ
all_noted [] found = found
all_noted (a ∷ names) found = all_noted names (noted a found)
