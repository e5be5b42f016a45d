-- The typing rows of the library: for each call the operands, the list that it makes, and the results.
use Rattle.std.specs.Prelude.{◌≡◌, ◌⊎◌, ℕ, List, [], All, Option, Some, None, IsSomeAnd, ⊤}
use Rattle.bal_base.specs.declared.shape.Shape.{Shape}
use Rattle.type_model.specs.declared.basic.SemType.{SemType, Atom}
use Rattle.type_model.specs.declared.answers.Keys.TheVariants.{AnyIndex, AnyField}
use Rattle.type_model.specs.declared.atoms.AtomDef.{AtomDef}
use Rattle.type_model.specs.Membership.{In}
use Rattle.type_model.specs.Parts.{StandsAt}
use Rattle.operations.specs.declared.library.LibraryCall.{LibraryCall}
use Rattle.operations.specs.declared.library.LibraryCall.TheVariants.{Println, Print, Readln, FromString, Abs, ToString, Clone, CloneReadOnly, StringLength, StartsWith, Trim, Substring, ToUpperAscii, ToLowerAscii, ToCodePointInts, ListLength, Push, Pop, RemoveItem, Slice, Reverse, MappingLength, Keys, HasKey, Get, RemoveKey, Message, Cause, Detail}
use Rattle.type_model.specs.Anydata.{IsAnydata}
use Rattle.operations.specs.Kinds.{IsBoolean, IsDetail, IsError, IsImmutableData, IsInteger, IsList, IsMapping, IsNil, IsString}
use Rattle.operations.specs.Rows.{IsWithin, NoOperand, One, OneAndMore, ResultHas, Three, Two}
use Rattle.operations.specs.Structures.{IsListAtom}

module _ (env : List AtomDef) where
  abbrev pub AtIndexes : SemType → Shape → Type 0
  AtIndexes t x = StandsAt env t AnyIndex x

  abbrev pub AtKeys : SemType → Shape → Type 0
  AtKeys t x = StandsAt env t AnyField x

  -- the call makes a new list of an atom without fixed places, whose rest has all that such items may be
  abbrev pub MakesList : Option ℕ → (Shape → Type 0) → Option SemType → Type 0
  MakesList atom P result =
      IsSomeAnd atom (λ a. IsListAtom env a (λ fixed rest. (fixed ≡ []) × IsSomeAnd rest (λ t. ResultHas env (Some t.sem) P))
      × ResultHas env result (λ x. In env x (Atom a)))

  -- the call makes no list, and may give all these
  abbrev pub MakesNone : Option ℕ → (Shape → Type 0) → Option SemType → Type 0
  MakesNone atom P result = (atom ≡ None) × ResultHas env result P

  -- a string, and one or two ints; a list, and one or two ints
  abbrev pub PartOf : (Shape → Type 0) → List SemType → Type 0
  PartOf Whole operands =
      Two operands (λ whole from. IsWithin env Whole whole × IsWithin env IsInteger from)
      ⊎ Three operands (λ whole from to. IsWithin env Whole whole × IsWithin env IsInteger from × IsWithin env IsInteger to)

  abbrev pub LibraryTyped : LibraryCall → Option ℕ → List SemType → Option SemType → Type 0
  LibraryTyped Println atom operands result = MakesNone atom IsNil result
  LibraryTyped Print atom operands result = MakesNone atom IsNil result
  LibraryTyped Readln atom operands result = (NoOperand operands ⊎ One operands (λ prompt. ⊤)) × MakesNone atom IsString result
  LibraryTyped FromString atom operands result =
      One operands (λ s. IsWithin env IsString s × MakesNone atom (λ x. IsInteger x ⊎ IsError x) result)
  LibraryTyped Abs atom operands result = One operands (λ n. IsWithin env IsInteger n × MakesNone atom IsInteger result)
  LibraryTyped ToString atom operands result = One operands (λ v. MakesNone atom IsString result)
  LibraryTyped Clone atom operands result =
      One operands (λ v. IsWithin env IsAnydata v × MakesNone atom (λ x. In env x v) result)
  LibraryTyped CloneReadOnly atom operands result =
      One operands (λ v. IsWithin env IsAnydata v × MakesNone atom IsImmutableData result)
  LibraryTyped StringLength atom operands result = One operands (λ s. IsWithin env IsString s × MakesNone atom IsInteger result)
  LibraryTyped StartsWith atom operands result =
      Two operands (λ s t. IsWithin env IsString s × IsWithin env IsString t × MakesNone atom IsBoolean result)
  LibraryTyped Trim atom operands result = One operands (λ s. IsWithin env IsString s × MakesNone atom IsString result)
  LibraryTyped Substring atom operands result = PartOf IsString operands × MakesNone atom IsString result
  LibraryTyped ToUpperAscii atom operands result = One operands (λ s. IsWithin env IsString s × MakesNone atom IsString result)
  LibraryTyped ToLowerAscii atom operands result = One operands (λ s. IsWithin env IsString s × MakesNone atom IsString result)
  LibraryTyped ToCodePointInts atom operands result = One operands (λ s. IsWithin env IsString s × MakesList atom IsInteger result)
  LibraryTyped ListLength atom operands result = One operands (λ l. IsWithin env IsList l × MakesNone atom IsInteger result)
  LibraryTyped Push atom operands result =
      OneAndMore operands (λ l values. IsWithin env IsList l × All (IsWithin env (AtIndexes l)) values × MakesNone atom IsNil result)
  LibraryTyped Pop atom operands result = One operands (λ l. IsWithin env IsList l × MakesNone atom (AtIndexes l) result)
  LibraryTyped RemoveItem atom operands result =
      Two operands (λ l i. IsWithin env IsList l × IsWithin env IsInteger i × MakesNone atom (AtIndexes l) result)
  LibraryTyped Slice atom operands result =
      PartOf IsList operands × OneAndMore operands (λ l bounds. MakesList atom (AtIndexes l) result)
  LibraryTyped Reverse atom operands result = One operands (λ l. IsWithin env IsList l × MakesList atom (AtIndexes l) result)
  LibraryTyped MappingLength atom operands result = One operands (λ m. IsWithin env IsMapping m × MakesNone atom IsInteger result)
  LibraryTyped Keys atom operands result = One operands (λ m. IsWithin env IsMapping m × MakesList atom IsString result)
  LibraryTyped HasKey atom operands result =
      Two operands (λ m k. IsWithin env IsMapping m × IsWithin env IsString k × MakesNone atom IsBoolean result)
  LibraryTyped Get atom operands result =
      Two operands (λ m k. IsWithin env IsMapping m × IsWithin env IsString k × MakesNone atom (AtKeys m) result)
  LibraryTyped RemoveKey atom operands result =
      Two operands (λ m k. IsWithin env IsMapping m × IsWithin env IsString k × MakesNone atom (AtKeys m) result)
  LibraryTyped Message atom operands result = One operands (λ e. IsWithin env IsError e × MakesNone atom IsString result)
  LibraryTyped Cause atom operands result =
      One operands (λ e. IsWithin env IsError e × MakesNone atom (λ x. IsNil x ⊎ IsError x) result)
  LibraryTyped Detail atom operands result = One operands (λ e. IsWithin env IsError e × MakesNone atom IsDetail result)
