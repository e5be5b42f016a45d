-- Arrows by the numbers of their atoms.
use Rattle.std.specs.Prelude.{◌≡◌, ℕ, List, Bool, true, false, Option, Some, None, slice_get}
use Rattle.type_model.specs.declared.atoms.AtomDef.{AtomDef}
use Rattle.type_model.specs.declared.atoms.AtomDef.TheVariants.{List as ListAtom, Mapping as MappingAtom, Arrow, Error as ErrorAtom, Future as FutureAtom}
use Rattle.type_diagrams.specs.declared.kind.Kind.TheVariants.{Function as Functions}
use Rattle.type_diagrams.specs.Conditions.{is_def_of}

-- whether a definition is an arrow of isolated functions alone
abbrev pub is_alone : Option AtomDef → Bool
is_alone None = false
is_alone (Some (ListAtom fixed rest)) = false
is_alone (Some (MappingAtom fields rest)) = false
is_alone (Some (Arrow args outcome alone)) = alone
is_alone (Some (ErrorAtom detail)) = false
is_alone (Some (FutureAtom outcome)) = false

module _ (env : List AtomDef) where
  -- the atom is an arrow
  abbrev pub IsArrow : ℕ → Type 0
  IsArrow a = is_def_of Functions (slice_get env a) ≡ true

  -- whether it is one of isolated functions alone
  abbrev pub is_isolated : ℕ → Bool
  is_isolated a = is_alone (slice_get env a)
