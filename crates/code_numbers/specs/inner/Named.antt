-- Which atoms the types of a code name, as lists.
use Rattle.std.specs.Prelude.{ℕ, All, ⊤}
use Rattle.bal_base.specs.Valid.{IsText}
use Rattle.type_model.specs.declared.atoms.AtomDef.{AtomDef}
use Rattle.type_model.specs.declared.atoms.AtomDef.TheVariants.{List as ListAtom, Mapping as MappingAtom, Arrow, Error as ErrorAtom, Future as FutureAtom}
use Rattle.type_model.specs.Defined.{NamesBelow}
use Rattle.stack_code.specs.declared.code.Code.{Code}
use Rattle.stack_code.specs.declared.code.Unit.{Unit as CodeUnit}

-- names of fields are texts
abbrev pub HasTexts : AtomDef → Type 0
HasTexts (MappingAtom fields rest) = All (λ f. IsText f.name) fields
HasTexts (ListAtom fixed rest) = ⊤
HasTexts (Arrow args outcome alone) = ⊤
HasTexts (ErrorAtom detail) = ⊤
HasTexts (FutureAtom outcome) = ⊤

abbrev pub UnitNames : ℕ → CodeUnit → Type 0
UnitNames n u = All (NamesBelow n) u.params × All (NamesBelow n) u.captured × All (NamesBelow n) u.slots × NamesBelow n u.result

-- beside definitions
abbrev pub OthersName : ℕ → Code → Type 0
OthersName n code = All (NamesBelow n) code.tested × All (NamesBelow n) code.variables × All (UnitNames n) code.units
