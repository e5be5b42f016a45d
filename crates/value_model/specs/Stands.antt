-- Which shapes a value stands for, and to which types it belongs (Ballerina's inherent types).
use Rattle.std.specs.Prelude.{◌≡◌, ◌≤◌, ℕ, Bool, true, false, List, [], ◌∷◌, Option, Some, IsSomeAnd, IsTrue, IsFalse, All, ◌⊎◌, ⊤, length, slice_get}
use Rattle.bal_base.specs.declared.text.Text.{Text}
use Rattle.bal_base.specs.declared.shape.Shape.{Shape, Nil as NilShape, Bool as BoolShape, Int as IntShape, Str as StrShape, List', Mapping', Error', Function as FunctionShape, Future', Row_of-Shape, end_of-Shape, more_of-Shape, Row_of-Fields-items-2 as Row_of-Field, end_of-Fields-items-2 as end_of-Field, more_of-Fields-items-2 as more_of-Field, items-the_row-Fields-items-2 as fields_in}
use Rattle.bal_base.specs.Valid.{IsValid}
use Rattle.type_model.specs.declared.basic.SemType.{SemType, Atom}
use Rattle.type_model.specs.declared.basic.Ty.{Ty}
use Rattle.type_model.specs.declared.atoms.AtomDef.{AtomDef}
use Rattle.type_model.specs.declared.atoms.AtomDef.TheVariants.{List as ListAtom, Mapping as MappingAtom}
use Rattle.type_model.specs.Membership.{In}
use Rattle.type_model.specs.Places.{item_type, key_type}
use Rattle.value_model.specs.declared.value.Value.{Value}
use Rattle.value_model.specs.declared.value.Value.TheVariants.{Nil, Bool as Truth, Int, Str, Struct, Error, Function, Future}
use Rattle.value_model.specs.Heap.{Heap, Members, Items, Entries, entry_at}

-- the types that values have of their own: the definitions of the atoms, and each unit's arrow and future atom
pub record OwnTypes : Type 0 where
  pub atoms : List AtomDef
  pub units : List (ℕ × ℕ)

-- ---- the one shape of a simple value, an immutable structure or an error

module _ (h : Heap) where
  -- the value is an immutable structure with such members
  abbrev pub IsFrozenWith : (Members → Type 0) → Value → Type 0
  IsFrozenWith P (Struct n) = IsSomeAnd (slice_get h.structures n) (λ s. IsFalse s.mutable × P s.members)
  IsFrozenWith P _ = ⊥

  -- the value is an error with such a detail
  abbrev pub IsErrorWith : (Value → Type 0) → Value → Type 0
  IsErrorWith P (Error n) = IsSomeAnd (slice_get h.errors n) (λ e. P (Struct e.detail))
  IsErrorWith P _ = ⊥

  abbrev pub IsList : (List Value → Type 0) → Members → Type 0
  IsList P (Items vs) = P vs
  IsList P (Entries es) = ⊥

  abbrev pub IsMapping : (List (Text × Value) → Type 0) → Members → Type 0
  IsMapping P (Items vs) = ⊥
  IsMapping P (Entries es) = P es

  -- there is a value at the front, and so are the others
  abbrev pub FrontIs : (Value → Type 0) → (List Value → Type 0) → List Value → Type 0
  FrontIs P Q [] = ⊥
  FrontIs P Q (v ∷ vs) = P v × Q vs

  abbrev mutual
    pub HasShape : Shape → Value → Type 0
    HasShape NilShape v = v ≡ Nil
    HasShape (BoolShape b) v = v ≡ Truth b
    HasShape (IntShape i) v = v ≡ Int i
    HasShape (StrShape t) v = v ≡ Str t
    HasShape (List' mark _ items) v = IsTrue mark × IsFrozenWith (IsList (HaveShapes items)) v
    HasShape (Mapping' mark _ fields) v =
        IsTrue mark × IsFrozenWith (IsMapping (λ es. (length es ≡ length (fields_in _ fields)) × HaveFields fields es)) v
    HasShape (Error' _ detail) v = IsErrorWith (HasShape detail) v
    HasShape (FunctionShape isolated graph) v = ⊥
    HasShape (Future' _ results) v = ⊥

    -- value by value
    pub HaveShapes : {n : _} → Row_of-Shape n → List Value → Type 0
    HaveShapes end_of-Shape vs = vs ≡ []
    HaveShapes (more_of-Shape x xs) vs = FrontIs (HasShape x) (HaveShapes xs) vs

    -- each field of the shape is there; their number says that nothing else is
    pub HaveFields : {n : _} → Row_of-Field n → List (Text × Value) → Type 0
    HaveFields end_of-Field es = ⊤
    HaveFields (more_of-Field key x more) es = IsSomeAnd (entry_at es key) (HasShape x) × HaveFields more es

-- ---- what each value stands for

-- a list or mapping shape without the mark; shapes of other kinds have none
abbrev pub IsUnmarked : Shape → Type 0
IsUnmarked NilShape = ⊤
IsUnmarked (BoolShape b) = ⊤
IsUnmarked (IntShape i) = ⊤
IsUnmarked (StrShape t) = ⊤
IsUnmarked (List' mark _ items) = IsFalse mark
IsUnmarked (Mapping' mark _ fields) = IsFalse mark
IsUnmarked (Error' _ detail) = ⊤
IsUnmarked (FunctionShape isolated graph) = ⊤
IsUnmarked (Future' _ results) = ⊤

module _ (own : OwnTypes) (h : Heap) where
  -- a mutable structure stands for each unmarked shape of its inherent atom, an immutable one for its own shape
  abbrev pub StructureStands : Bool → Option ℕ → ℕ → Shape → Type 0
  StructureStands true atom n s = IsUnmarked s × IsSomeAnd atom (λ a. In own.atoms s (Atom a))
  StructureStands false atom n s = HasShape h s (Struct n)

  -- the value stands for the shape
  abbrev pub Stands : Value → Shape → Type 0
  Stands Nil s = HasShape h s Nil
  Stands (Truth b) s = HasShape h s (Truth b)
  Stands (Int i) s = HasShape h s (Int i)
  Stands (Str t) s = HasShape h s (Str t)
  Stands (Struct n) s = IsSomeAnd (slice_get h.structures n) (λ x. StructureStands x.mutable x.atom n s)
  Stands (Error n) s = HasShape h s (Error n)
  -- a function stands for each shape of its unit's arrow
  Stands (Function n) s =
      IsSomeAnd (slice_get h.functions n) (λ f. IsSomeAnd (slice_get own.units f.unit) (λ u. In own.atoms s (Atom u.0)))
  -- a future stands for each shape of the future of its unit's result
  Stands (Future strand unit) s = IsSomeAnd (slice_get own.units unit) (λ u. In own.atoms s (Atom u.1))

  -- every shape that the value stands for is in the type
  abbrev pub Belongs : Value → SemType → Type 0
  Belongs v t = (s : Shape) → IsValid s → Stands v s → In own.atoms s t

  -- ---- members

  -- there is such a type, and the value belongs to it
  abbrev pub BelongsIf : Value → Option Ty → Type 0
  BelongsIf v t = IsSomeAnd t (λ u. Belongs v u.sem)

  -- as many items as the atom allows, each of which belongs to its place
  abbrev pub ItemsBelong : List Ty → Option Ty → List Value → Type 0
  ItemsBelong fixed rest vs =
      (length fixed ≤ length vs) × ((i : ℕ) (v : Value) → slice_get vs i ≡ Some v → BelongsIf v (item_type fixed rest i))

  -- the members are those of a structure of the atom: their number or their keys are allowed, and each belongs to its place
  abbrev pub MembersBelong : Members → AtomDef → Type 0
  MembersBelong (Items vs) (ListAtom fixed rest) = ItemsBelong fixed rest vs
  MembersBelong (Entries es) (MappingAtom fields rest) =
      All (λ f. IsTrue f.optional ⊎ IsSomeAnd (entry_at es f.name) (λ _. ⊤)) fields × All (λ e. BelongsIf e.1 (key_type fields rest e.0)) es
  MembersBelong _ _ = ⊥
