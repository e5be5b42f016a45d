-- The parts of the definitions of atoms, by their kinds.
use Rattle.std.specs.Prelude.{ℕ, List, Option, Some, None, slice_get, option_and_then}
use Rattle.type_model.specs.declared.basic.SemType.{SemType}
use Rattle.type_model.specs.declared.basic.Ty.{Ty}
use Rattle.type_model.specs.declared.atoms.FieldDef.{FieldDef}
use Rattle.type_model.specs.declared.atoms.AtomDef.{AtomDef}
use Rattle.type_model.specs.declared.atoms.AtomDef.TheVariants.{List as ListAtom, Mapping as MappingAtom, Arrow, Error as ErrorAtom, Future as FutureAtom}

-- the fixed types and the rest of a list atom
abbrev pub list_parts : AtomDef → Option (List Ty × Option Ty)
list_parts (ListAtom fixed rest) = Some (fixed, rest)
list_parts (MappingAtom fields rest) = None
list_parts (Arrow args outcome alone) = None
list_parts (ErrorAtom detail) = None
list_parts (FutureAtom outcome) = None

-- the fields and the rest of a mapping atom
abbrev pub mapping_parts : AtomDef → Option (List FieldDef × Option Ty)
mapping_parts (ListAtom fixed rest) = None
mapping_parts (MappingAtom fields rest) = Some (fields, rest)
mapping_parts (Arrow args outcome alone) = None
mapping_parts (ErrorAtom detail) = None
mapping_parts (FutureAtom outcome) = None

-- the detail of an error atom
abbrev pub error_part : AtomDef → Option SemType
error_part (ListAtom fixed rest) = None
error_part (MappingAtom fields rest) = None
error_part (Arrow args outcome alone) = None
error_part (ErrorAtom detail) = Some detail
error_part (FutureAtom outcome) = None

-- the arguments and the result of an arrow
abbrev pub arrow_parts : AtomDef → Option (SemType × SemType)
arrow_parts (ListAtom fixed rest) = None
arrow_parts (MappingAtom fields rest) = None
arrow_parts (Arrow args outcome alone) = Some (args, outcome)
arrow_parts (ErrorAtom detail) = None
arrow_parts (FutureAtom outcome) = None

-- the result of a future atom
abbrev pub future_part : AtomDef → Option SemType
future_part (ListAtom fixed rest) = None
future_part (MappingAtom fields rest) = None
future_part (Arrow args outcome alone) = None
future_part (ErrorAtom detail) = None
future_part (FutureAtom outcome) = Some outcome

-- such parts of the atom with this number
abbrev pub parts_of : {X : Type 0} → (AtomDef → Option X) → List AtomDef → ℕ → Option X
parts_of parts env a = option_and_then parts (slice_get env a)
