-- Which shapes are in a type: by recursion on the shape, and for one shape by recursion on the type.
use Rattle.std.specs.Prelude.{◌≤◌, ℕ, ◌+◌, List, length, IsTrue, ⊤, ◌⊎◌, Option, IsSomeAnd, slice_get, Bool, false}
use Rattle.bal_base.specs.declared.text.Text.{Text}
use Rattle.bal_base.specs.declared.shape.Shape.{Shape, Nil, Bool as BoolShape, Int, Str, List', Mapping', Error', Function, Future', Row_of-Shape, end_of-Shape, more_of-Shape, items-the_row-Shape as shapes_in, Row_of-Fields-items-2 as Row_of-Field, end_of-Fields-items-2 as end_of-Field, more_of-Fields-items-2 as more_of-Field, items-the_row-Fields-items-2 as fields_in}
use Rattle.bal_base.specs.declared.shape.Case.{Held-Case-result, None', Some'}
use Rattle.bal_base.specs.declared.shape.Graph.{Graph, Graph', Row_of-Case, end_of-Case, more_of-Case}
use Rattle.type_model.specs.declared.basic.SemType.{SemType, Basic, Atom, Or', And', Not'}
use Rattle.type_model.specs.declared.basic.BasicSet.{BasicSet}
use Rattle.type_model.specs.declared.basic.Ty.{Ty}
use Rattle.type_model.specs.declared.atoms.FieldDef.{FieldDef}
use Rattle.type_model.specs.declared.atoms.AtomDef.{AtomDef}
use Rattle.type_model.specs.declared.atoms.AtomDef.TheVariants.{List as ListAtom, Mapping as MappingAtom, Arrow, Error as ErrorAtom, Future as FutureAtom}
use Rattle.type_model.specs.Basic.{InBasic}
use Rattle.type_model.specs.Places.{item_type, key_type, HasRequired}

-- a type that is put together of sets and atoms, where `basic` and `atom` say which of these hold the shape
abbrev pub Holds : (BasicSet → Type 0) → (ℕ → Type 0) → SemType → Type 0
Holds basic atom (Basic b) = basic b
Holds basic atom (Atom n) = atom n
Holds basic atom (Or' _ s _ t) = Holds basic atom s ⊎ Holds basic atom t
Holds basic atom (And' _ s _ t) = Holds basic atom s × Holds basic atom t
Holds basic atom (Not' _ t) = ¬ (Holds basic atom t)

-- What an atom of each kind asks of a shape of its kind. The last argument but one says of the parts of
-- the shape which types they are in.

-- a list of at least as many items as are fixed, each in the type of its place
abbrev pub ListFits : List Shape → (List Ty → Option Ty → Type 0) → AtomDef → Type 0
ListFits items each (ListAtom fixed rest) = (length fixed ≤ length items) × each fixed rest
ListFits items each (MappingAtom fields rest) = ⊥
ListFits items each (Arrow args outcome alone) = ⊥
ListFits items each (ErrorAtom detail) = ⊥
ListFits items each (FutureAtom outcome) = ⊥

-- a mapping with all required fields, each member in the type of its key
abbrev pub MappingFits : List (Text × Shape) → (List FieldDef → Option Ty → Type 0) → AtomDef → Type 0
MappingFits members each (MappingAtom fields rest) = HasRequired fields members × each fields rest
MappingFits members each (ListAtom fixed rest) = ⊥
MappingFits members each (Arrow args outcome alone) = ⊥
MappingFits members each (ErrorAtom detail) = ⊥
MappingFits members each (FutureAtom outcome) = ⊥

-- an error with such a detail
abbrev pub ErrorFits : (SemType → Type 0) → AtomDef → Type 0
ErrorFits detail_in (ErrorAtom detail) = detail_in detail
ErrorFits detail_in (ListAtom fixed rest) = ⊥
ErrorFits detail_in (MappingAtom fields rest) = ⊥
ErrorFits detail_in (Arrow args outcome alone) = ⊥
ErrorFits detail_in (FutureAtom outcome) = ⊥

-- a function, isolated if the atom is, that maps such arguments to such results
abbrev pub FunctionFits : Bool → (SemType → SemType → Type 0) → AtomDef → Type 0
FunctionFits isolated maps (Arrow args outcome alone) = (IsTrue alone → IsTrue isolated) × maps args outcome
FunctionFits isolated maps (ListAtom fixed rest) = ⊥
FunctionFits isolated maps (MappingAtom fields rest) = ⊥
FunctionFits isolated maps (ErrorAtom detail) = ⊥
FunctionFits isolated maps (FutureAtom outcome) = ⊥

-- a future with such results
abbrev pub FutureFits : (SemType → Type 0) → AtomDef → Type 0
FutureFits each_in (FutureAtom outcome) = each_in outcome
FutureFits each_in (ListAtom fixed rest) = ⊥
FutureFits each_in (MappingAtom fields rest) = ⊥
FutureFits each_in (Arrow args outcome alone) = ⊥
FutureFits each_in (ErrorAtom detail) = ⊥

module _ (env : List AtomDef) where
  -- s is in a type, where `fits` says which definitions of atoms it fits
  abbrev pub InBy : Shape → (AtomDef → Type 0) → SemType → Type 0
  InBy s fits = Holds (InBasic s) (λ n. IsSomeAnd (slice_get env n) fits)

  abbrev mutual
    -- a shape fits the definition of an atom
    pub Fits : Shape → AtomDef → Type 0
    Fits (List' mark _ items) = ListFits (shapes_in _ items) (EachIn items 0)
    Fits (Mapping' mark _ fields) = MappingFits (fields_in _ fields) (MembersIn fields)
    Fits (Error' _ detail) = ErrorFits (InBy detail (Fits detail))
    Fits (Function isolated graph) = FunctionFits isolated (Maps graph)
    Fits (Future' _ results) = FutureFits (AllIn results)
    Fits Nil = λ d. ⊥
    Fits (BoolShape b) = λ d. ⊥
    Fits (Int i) = λ d. ⊥
    Fits (Str t) = λ d. ⊥

    -- each item of a list, from the place k on, is in the type of its place
    pub EachIn : {n : _} → Row_of-Shape n → ℕ → List Ty → Option Ty → Type 0
    EachIn end_of-Shape k fixed rest = ⊤
    EachIn (more_of-Shape x xs) k fixed rest =
        IsSomeAnd (item_type fixed rest k) (λ t. InBy x (Fits x) t.sem) × EachIn xs (k + 1) fixed rest

    -- each member of a mapping is in the type of its key
    pub MembersIn : {n : _} → Row_of-Field n → List FieldDef → Option Ty → Type 0
    MembersIn end_of-Field fields rest = ⊤
    MembersIn (more_of-Field key x more) fields rest =
        IsSomeAnd (key_type fields rest key) (λ t. InBy x (Fits x) t.sem) × MembersIn more fields rest

    -- all are in the type
    pub AllIn : {n : _} → Row_of-Shape n → SemType → Type 0
    AllIn end_of-Shape t = ⊤
    AllIn (more_of-Shape x xs) t = InBy x (Fits x) t × AllIn xs t

    -- a function with this graph gives a result in `outcome` to all arguments in `args`
    pub Maps : Graph → SemType → SemType → Type 0
    Maps (Graph' _ cases) = CasesMap cases

    -- the arguments count as an unmarked list
    pub CasesMap : {n : _} → Row_of-Case n → SemType → SemType → Type 0
    CasesMap end_of-Case args outcome = ⊤
    CasesMap (more_of-Case s xs result rest) args outcome =
        (InBy (List' false s xs) (ListFits (shapes_in _ xs) (EachIn xs 0)) args → ResultIn result outcome) × CasesMap rest args outcome

    -- a failure is in no type
    pub ResultIn : Held-Case-result → SemType → Type 0
    ResultIn None' t = ⊥
    ResultIn (Some' x) t = InBy x (Fits x) t

  -- the shape is in the type
  abbrev pub In : Shape → SemType → Type 0
  In s = InBy s (Fits s)
