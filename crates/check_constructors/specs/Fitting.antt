-- The steps by which it is found which constructor choices fit.
use Rattle.std.specs.Prelude.{◌≡◌, ◌⊎◌, ℕ, List, All, Any, IsTrue, Option, Some, length}
use Rattle.bal_base.specs.declared.fault.Fault.{Fault}
use Rattle.bal_base.specs.declared.fault.FaultCode.TheVariants.{NoChoice}
use Rattle.bal_base.specs.declared.fault.Kept.TheVariants.{Nothing as ShowsNothing}
use Rattle.bal_base.specs.declared.place.Place.{Place}
use Rattle.bal_base.specs.declared.stop.Stop.{Stop}
use Rattle.bal_base.specs.declared.stop.Stop.TheVariants.{Memory, Fault as OwnFault}
use Rattle.bal_tree.specs.declared.name.Literal.{Literal}
use Rattle.checks.specs.Questions.{IsFault}
use Rattle.type_model.specs.declared.atoms.AtomDef.{AtomDef}
use Rattle.type_model.specs.declared.atoms.AtomDef.TheVariants.{List as ListAtom, Mapping as MappingAtom, Arrow, Error as ErrorAtom, Future as FutureAtom}
use Rattle.type_model.specs.declared.atoms.FieldDef.{FieldDef}
use Rattle.type_model.specs.declared.basic.Ty.{Ty}
use Rattle.type_model.specs.Places.{item_type}
use Rattle.expr_needs.specs.Needs.{MemberSeen}
use Rattle.check_words.specs.Constructors.{LengthFits, LiteralsFit, MemberFits, RequiredAreThere, literal_fits}
use Rattle.check_words.specs.Words.{Atoms}

-- the item, if it is a literal, is in the type of its place
abbrev pub FitsAt : Atoms → List Ty → Option Ty → ℕ → Option Literal → Type 0
FitsAt env fixed rest place value = literal_fits env value (item_type fixed rest place)

-- a list of these items may be of this atom
abbrev pub IsListFor : Atoms → List (Option Literal) → AtomDef → Type 0
IsListFor env items (ListAtom fixed rest) = LengthFits fixed rest (length items) × LiteralsFit env 0 fixed rest items
IsListFor env items (MappingAtom fields rest) = ⊥
IsListFor env items (Arrow args outcome alone) = ⊥
IsListFor env items (ErrorAtom detail) = ⊥
IsListFor env items (FutureAtom outcome) = ⊥

-- the field may be lacking, or some member has its name
abbrev pub IsThere : List MemberSeen → FieldDef → Type 0
IsThere members f = IsTrue f.optional ⊎ Any (λ m. m.key ≡ Some f.name) members

-- a mapping of these members may be of this atom
abbrev pub IsMappingFor : Atoms → List MemberSeen → AtomDef → Type 0
IsMappingFor env members (MappingAtom fields rest) = (All (MemberFits env fields rest) members) × RequiredAreThere fields members
IsMappingFor env members (ListAtom fixed rest) = ⊥
IsMappingFor env members (Arrow args outcome alone) = ⊥
IsMappingFor env members (ErrorAtom detail) = ⊥
IsMappingFor env members (FutureAtom outcome) = ⊥

-- the stop is the fault that no choice fits
abbrev pub IsNoChoice : Place → Stop Fault → Type 0
IsNoChoice at Memory = ⊥
IsNoChoice at (OwnFault f) = IsFault NoChoice (Some at) ShowsNothing f
