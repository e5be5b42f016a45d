-- What a table of tests keeps.
use Rattle.std.specs.Prelude.{ℕ, Bool, List, Option, None, All, IsSomeAnd, IsTrue, Contains, slice_get, ⊤}
use Rattle.std.specs.List.{AllZip}
use Rattle.bal_base.specs.declared.shape.Shape.{Shape}
use Rattle.bal_base.specs.Valid.{IsValid}
use Rattle.type_model.specs.declared.basic.SemType.{SemType, Atom}
use Rattle.type_model.specs.declared.basic.Ty.{Ty}
use Rattle.type_model.specs.declared.atoms.AtomDef.{AtomDef}
use Rattle.type_model.specs.declared.atoms.AtomDef.TheVariants.{List as ListAtom, Mapping as MappingAtom, Arrow, Error as ErrorAtom, Future as FutureAtom}
use Rattle.type_model.specs.Places.{item_type}
use Rattle.type_model.specs.Membership.{In}
use Rattle.value_model.specs.declared.filler.Filler.{Filler}
use Rattle.value_model.specs.declared.filler.Filler.TheVariants.{Nothing, Nil as NilFiller, Bool as BoolFiller, Int as IntFiller, Str as StrFiller, List as NewList, Mapping as NewMapping}
use Rattle.value_model.specs.declared.value.Value.{Value}
use Rattle.value_model.specs.declared.value.Value.TheVariants.{Nil, Bool as Truth, Int, Str, Struct, Error, Function, Future}
use Rattle.value_model.specs.Heap.{Heap, Structure, values_of}
use Rattle.value_model.specs.Stands.{OwnTypes, IsUnmarked, MembersBelong}
use Rattle.value_model.specs.Exact.{AnswersExactly, FillsExactly}

pub record TestTable : Type 0 where
  pub atoms : List AtomDef
  -- the atoms that structures, functions and futures are made with
  pub inherent : List ℕ
  pub tested : List SemType
  -- each unit's own arrow and future atom
  pub units : List (ℕ × ℕ)
  -- for each inherent atom, an answer for each tested type
  pub answers : List (List Bool)
  -- for each inherent atom, the fillers of its places
  pub fillers : List (List Filler)

abbrev pub table_of : List AtomDef → List ℕ → List SemType → List (ℕ × ℕ) → List (List Bool) → List (List Filler) → TestTable
table_of atoms inherent tested units answers fillers =
    record { atoms = atoms; inherent = inherent; tested = tested; units = units; answers = answers; fillers = fillers }

-- the type at a place of a list atom, where it allows the place
abbrev pub type_at : AtomDef → ℕ → Option Ty
type_at (ListAtom fixed rest) k = item_type fixed rest k
type_at (MappingAtom fields rest) k = None
type_at (Arrow args outcome alone) k = None
type_at (ErrorAtom detail) k = None
type_at (FutureAtom outcome) k = None

abbrev pub AllowsPlace : AtomDef → ℕ → Type 0
AllowsPlace d k = IsSomeAnd (type_at d k) (λ t. ⊤)

abbrev pub own_types : TestTable → OwnTypes
own_types t = record { atoms = t.atoms; units = t.units }

-- the answers are what they should be, and so are the fillers
pub record IsExact (t : TestTable) : Type 0 where
  pub answers : AllZip (AnswersExactly t.atoms t.tested) t.inherent t.answers
  pub fillers : AllZip (FillsExactly t.atoms) t.inherent t.fillers

-- ---- what a heap asks of the table with which it is used

-- the unit's own atoms are inherent
abbrev pub KnowsUnit : TestTable → ℕ → Type 0
KnowsUnit t unit = IsSomeAnd (slice_get t.units unit) (λ u. Contains t.inherent u.0 × Contains t.inherent u.1)

-- a function or future is of such a unit
abbrev pub KnowsValue : TestTable → Heap → Value → Type 0
KnowsValue t h Nil = ⊤
KnowsValue t h (Truth b) = ⊤
KnowsValue t h (Int i) = ⊤
KnowsValue t h (Str s) = ⊤
KnowsValue t h (Struct n) = ⊤
KnowsValue t h (Error n) = ⊤
KnowsValue t h (Function n) = IsSomeAnd (slice_get h.functions n) (λ f. KnowsUnit t f.unit)
KnowsValue t h (Future strand unit) = KnowsUnit t unit

-- a mutable structure: its atom is inherent and has an unmarked shape, and its members are those of the atom
abbrev pub IsSound : TestTable → Heap → Structure → Type 0
IsSound t h s = IsTrue s.mutable → IsSomeAnd s.atom (λ a.
    Contains t.inherent a × ((x : Shape) × IsValid x × IsUnmarked x × In t.atoms x (Atom a))
    × IsSomeAnd (slice_get t.atoms a) (MembersBelong (own_types t) h s.members))

-- the table serves the heap: what is made with inherent atoms, and its members stay within them
pub record Serves (t : TestTable) (h : Heap) : Type 0 where
  pub structures : All (IsSound t h) h.structures
  pub members : All (λ s. All (KnowsValue t h) (values_of s.members)) h.structures
  pub functions : All (λ f. KnowsUnit t f.unit × All (KnowsValue t h) f.captured) h.functions

-- the filler's atom is inherent
abbrev pub KnowsFiller : TestTable → Filler → Type 0
KnowsFiller t Nothing = ⊤
KnowsFiller t NilFiller = ⊤
KnowsFiller t (BoolFiller b) = ⊤
KnowsFiller t (IntFiller i) = ⊤
KnowsFiller t (StrFiller s) = ⊤
KnowsFiller t (NewList a) = Contains t.inherent a
KnowsFiller t (NewMapping a) = Contains t.inherent a
