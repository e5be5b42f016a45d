-- What operations know of the program.
use Rattle.std.specs.Prelude.{ℕ, List, Option, All, map}
use Rattle.type_model.specs.declared.atoms.AtomDef.{AtomDef}
use Rattle.value_model.specs.declared.filler.Filler.{Filler}
use Rattle.value_model.specs.Stands.{OwnTypes}
use Rattle.value_model.specs.Exact.{FillsExactly}

-- a named worker of a function: its unit, and the slots of the function that it captures
pub record WorkerFacts : Type 0 where
  pub unit : ℕ
  pub captured : List ℕ

-- a function, worker, anonymous function or initialiser
pub record UnitFacts : Type 0 where
  -- how many parameters it has, the rest parameter included
  pub params : ℕ
  -- the atom of the lists of the rest parameter, which is then the last one
  pub rest : Option ℕ
  -- its own arrow and future atom
  pub arrow : ℕ
  pub future : ℕ
  -- its named workers, in text order
  pub workers : List WorkerFacts

pub record ProgramFacts : Type 0 where
  pub atoms : List AtomDef
  pub units : List UnitFacts
  -- the units that initialise module variables
  pub initialisers : List ℕ
  -- for an atom of lists, the fillers of its fixed places and then that of its rest
  pub fillers : ℕ → List Filler

abbrev pub own_types : ProgramFacts → OwnTypes
own_types f = record { atoms = f.atoms; units = map (λ u. (u.arrow, u.future)) f.units }

-- the fillers are those of the places of these atoms
abbrev pub KnowsFillers : ProgramFacts → List ℕ → Type 0
KnowsFillers f atoms = All (λ a. FillsExactly f.atoms a (f.fillers a)) atoms
