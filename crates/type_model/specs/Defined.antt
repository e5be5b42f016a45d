-- Which types name only atoms that are defined.
use Rattle.std.specs.Prelude.{ℕ, ◌+◌, ◌<◌, ◌≤◌, List, length, All, IfSome, ⊤}
use Rattle.bal_base.specs.declared.limits.TheConstants.{MOST_ATOMS}
use Rattle.type_model.specs.declared.basic.SemType.{SemType, Basic, Atom, Or', And', Not'}
use Rattle.type_model.specs.declared.basic.Ty.{Ty}
use Rattle.type_model.specs.declared.basic.Choice.{Choice}
use Rattle.type_model.specs.declared.atoms.AtomDef.{AtomDef}
use Rattle.type_model.specs.declared.atoms.AtomDef.TheVariants.{List as ListAtom, Mapping as MappingAtom, Arrow, Error as ErrorAtom, Future as FutureAtom}
use Rattle.type_model.specs.Places.{HasDistinctFields}

-- every atom that the type names is one of the first n
abbrev pub NamesBelow : ℕ → SemType → Type 0
NamesBelow n (Basic b) = ⊤
NamesBelow n (Atom a) = a < n
NamesBelow n (Or' _ s _ t) = NamesBelow n s × NamesBelow n t
NamesBelow n (And' _ s _ t) = NamesBelow n s × NamesBelow n t
NamesBelow n (Not' _ t) = NamesBelow n t

abbrev pub ChoicesBelow : ℕ → List Choice → Type 0
ChoicesBelow n choices = All (λ c. c.atom < n) choices

-- the same of a type with its constructor choices
abbrev pub TyBelow : ℕ → Ty → Type 0
TyBelow n t = NamesBelow n t.sem × ChoicesBelow n t.lists × ChoicesBelow n t.maps

-- the same of the types in the definition of an atom
abbrev pub DefBelow : ℕ → AtomDef → Type 0
DefBelow n (ListAtom fixed rest) = All (TyBelow n) fixed × IfSome rest (TyBelow n)
DefBelow n (MappingAtom fields rest) = All (λ f. TyBelow n f.ty) fields × IfSome rest (TyBelow n)
DefBelow n (Arrow args outcome alone) = NamesBelow n args × NamesBelow n outcome
DefBelow n (ErrorAtom detail) = NamesBelow n detail
DefBelow n (FutureAtom outcome) = NamesBelow n outcome

-- every atom that the type names is defined
abbrev pub IsDefined : List AtomDef → SemType → Type 0
IsDefined env t = NamesBelow (length env) t

-- every atom that the group names is defined in the environment or in the group
abbrev pub IsDefinedGroup : List AtomDef → List AtomDef → Type 0
IsDefinedGroup env group = All (DefBelow (length env + length group)) group

-- definitions that together define every atom that they name
abbrev pub IsClosed : List AtomDef → Type 0
IsClosed env = All (DefBelow (length env)) env

-- what holds of every environment
pub record IsEnv (env : List AtomDef) : Type 0 where
  pub closed : IsClosed env
  pub distinct : All HasDistinctFields env
  pub bound : length env ≤ MOST_ATOMS
