-- What is the same but for where types lie in memory.
use Rattle.std.specs.Prelude.{◌≡◌, Option, Some, None, ⊤}
use Rattle.std.specs.List.{AllZip}
use Rattle.type_model.specs.declared.atoms.AtomDef.{AtomDef}
use Rattle.type_model.specs.declared.atoms.AtomDef.TheVariants.{List as ListAtom, Mapping as MappingAtom, Arrow, Error as ErrorAtom, Future as FutureAtom}
use Rattle.type_model.specs.declared.atoms.FieldDef.{FieldDef}
use Rattle.type_model.specs.declared.basic.SemType.{SemType}
use Rattle.type_model.specs.declared.basic.Ty.{Ty}
use Rattle.type_model.specs.SameType.{IsSameType}
use Rattle.typed_tree.specs.SharedTypes.{Shared, sem_of}

abbrev pub IsCopy : Shared → SemType → Type 0
IsCopy s t = IsSameType (sem_of s) t

-- ---- definitions of atoms

pub record IsSameTy (s t : Ty) : Type 0 where
  pub sem : IsSameType s.sem t.sem
  pub lists : s.lists ≡ t.lists
  pub maps : s.maps ≡ t.maps

abbrev pub AreSameRests : Option Ty → Option Ty → Type 0
AreSameRests (Some s) (Some t) = IsSameTy s t
AreSameRests (Some s) None = ⊥
AreSameRests None (Some t) = ⊥
AreSameRests None None = ⊤

pub record IsSameField (f g : FieldDef) : Type 0 where
  pub name : f.name ≡ g.name
  pub type : IsSameTy f.ty g.ty
  pub optional : f.optional ≡ g.optional

abbrev pub IsSameDef : AtomDef → AtomDef → Type 0
IsSameDef (ListAtom fixed rest) (ListAtom fixed' rest') = AllZip IsSameTy fixed fixed' × AreSameRests rest rest'
IsSameDef (ListAtom fixed rest) _ = ⊥
IsSameDef (MappingAtom fields rest) (MappingAtom fields' rest') = AllZip IsSameField fields fields' × AreSameRests rest rest'
IsSameDef (MappingAtom fields rest) _ = ⊥
IsSameDef (Arrow args outcome alone) (Arrow args' outcome' alone') = IsSameType args args' × IsSameType outcome outcome' × (alone ≡ alone')
IsSameDef (Arrow args outcome alone) _ = ⊥
IsSameDef (ErrorAtom detail) (ErrorAtom detail') = IsSameType detail detail'
IsSameDef (ErrorAtom detail) _ = ⊥
IsSameDef (FutureAtom outcome) (FutureAtom outcome') = IsSameType outcome outcome'
IsSameDef (FutureAtom outcome) _ = ⊥
