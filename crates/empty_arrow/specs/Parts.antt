-- What error and future atoms ask of the parts of their shapes: of the detail, or of each result.
use Rattle.std.specs.Prelude.{ℕ, List, Option, Some, None, IsSome}
use Rattle.type_model.specs.declared.basic.SemType.{SemType}
use Rattle.type_model.specs.declared.atoms.AtomDef.{AtomDef}
use Rattle.type_model.specs.declared.atoms.AtomDef.TheVariants.{List as ListAtom, Mapping as MappingAtom, Arrow, Error as ErrorAtom, Future as FutureAtom}
use Rattle.type_diagrams.specs.Atoms.{parts_of}
use Rattle.type_diagrams.specs.Conditions.{Condition, condition_of}
use Rattle.type_diagrams.specs.Members.{asked}

-- the type of the detail, or of the results
abbrev pub one_part : AtomDef → Option SemType
one_part (ListAtom fixed rest) = None
one_part (MappingAtom fields rest) = None
one_part (Arrow args outcome alone) = None
one_part (ErrorAtom detail) = Some detail
one_part (FutureAtom outcome) = Some outcome

module _ (env : List AtomDef) where
  -- an error or future atom
  abbrev pub HasPart : ℕ → Type 0
  HasPart a = IsSome (parts_of one_part env a)

  -- what it asks
  abbrev pub part_of : ℕ → Condition
  part_of a = asked (condition_of env) (parts_of one_part env a)
