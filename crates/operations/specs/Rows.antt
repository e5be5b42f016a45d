-- The words of which typing rows are put together.
use Rattle.std.specs.Prelude.{◌≡◌, ◌⊎◌, ℕ, zero, suc, pos, List, [], ◌∷◌, Option, Some, None}
use Rattle.std.specs.List.{AllZip}
use Rattle.bal_base.specs.declared.text.Text.{Text}
use Rattle.bal_base.specs.declared.shape.Shape.{Shape, Nil, Bool as BoolShape, Int, Str}
use Rattle.bal_base.specs.declared.shape.Case.{Case}
use Rattle.bal_base.specs.Shapes.{shapes_list}
use Rattle.bal_base.specs.Valid.{IsInt, IsText, IsValid}
use Rattle.type_model.specs.declared.basic.SemType.{SemType}
use Rattle.type_model.specs.declared.atoms.AtomDef.{AtomDef}
use Rattle.type_model.specs.declared.answers.Keys.{Keys}
use Rattle.type_model.specs.declared.answers.Keys.TheVariants.{Index, AnyIndex, Field, AnyField}
use Rattle.type_model.specs.Membership.{In}
use Rattle.type_model.specs.Inclusion.{IsShapeOf, HasExactly}
use Rattle.type_model.specs.Parts.{StandsAt}
use Rattle.operations.specs.declared.operation.Constant.{Constant}
use Rattle.operations.specs.declared.operation.Constant.TheVariants.{Nil as NilConstant, Bool as BoolConstant, Int as IntConstant, Str as StrConstant}
use Rattle.operations.specs.Kinds.{AnswersIn}

-- what rows need of a unit: its parameters, what it captures, its result, and its own arrow and future atoms
pub record Signature : Type 0 where
  pub params : List SemType
  pub captured : List SemType
  pub result : SemType
  pub arrow : ℕ
  pub future : ℕ

-- what rows need of the place where an operation stands
pub record Surroundings : Type 0 where
  -- the units and the module variables of the program, by number
  pub units : List Signature
  pub variables : List SemType
  -- the slots of the unit at hand, and its result
  pub slots : List SemType
  pub result : SemType
  -- the results of the workers of the function, by number, the default worker 0 first
  pub workers : List SemType

-- ---- how many operands there are, the first one first

abbrev pub NoOperand : List SemType → Type 0
NoOperand operands = operands ≡ []

abbrev pub One : List SemType → (SemType → Type 0) → Type 0
One (a ∷ []) P = P a
One _ P = ⊥

abbrev pub Two : List SemType → (SemType → SemType → Type 0) → Type 0
Two (a ∷ b ∷ []) P = P a b
Two _ P = ⊥

abbrev pub Three : List SemType → (SemType → SemType → SemType → Type 0) → Type 0
Three (a ∷ b ∷ c ∷ []) P = P a b c
Three _ P = ⊥

-- one, and then any number more
abbrev pub OneAndMore : List SemType → (SemType → List SemType → Type 0) → Type 0
OneAndMore (a ∷ rest) P = P a rest
OneAndMore [] P = ⊥

-- so many pairs of a key and a value
abbrev pub InPairs : ℕ → List SemType → (List (SemType × SemType) → Type 0) → Type 0
InPairs zero [] P = P []
InPairs zero (a ∷ rest) P = ⊥
InPairs (suc n) (key ∷ value ∷ rest) P = InPairs n rest (λ pairs. P ((key, value) ∷ pairs))
InPairs (suc n) _ P = ⊥

-- ---- what is given

abbrev pub NoResult : Option SemType → Type 0
NoResult result = result ≡ None

-- the shape of a constant
abbrev pub shape_of : Constant → Shape
shape_of NilConstant = Nil
shape_of (BoolConstant b) = BoolShape b
shape_of (IntConstant i) = Int i
shape_of (StrConstant t) = Str t

module _ (env : List AtomDef) where
  -- every shape of the type has the property
  abbrev pub IsWithin : (Shape → Type 0) → SemType → Type 0
  IsWithin P t = (x : Shape) → IsShapeOf env t x → P x

  -- something is given, in a type that has every shape with the property
  abbrev pub ResultHas : Option SemType → (Shape → Type 0) → Type 0
  ResultHas (Some r) P = (x : Shape) → IsValid x → P x → In env x r
  ResultHas None P = ⊥

  -- the type has this shape alone
  abbrev pub IsSingle : SemType → Shape → Type 0
  IsSingle t x = HasExactly env t (λ y. y ≡ x)

  -- the type has this int alone, which ints can be
  abbrev pub IsSingleIndex : SemType → ℕ → Type 0
  IsSingleIndex t n = IsInt (pos n) × IsSingle t (Int (pos n))

  -- which indexes a type of ints names: one where it has a single int, from 0 on, and else all
  abbrev pub NamesIndex : SemType → Keys → Type 0
  NamesIndex t keys = ((n : ℕ) × IsSingleIndex t n × (keys ≡ Index n)) ⊎ (((n : ℕ) → ¬ IsSingleIndex t n) × (keys ≡ AnyIndex))

  -- the type has the string of this text alone, which strings can have
  abbrev pub IsSingleKey : SemType → Text → Type 0
  IsSingleKey t key = IsText key × IsSingle t (Str key)

  -- which keys a type of strings names: one where it has a single string, and else all
  abbrev pub NamesKey : SemType → Keys → Type 0
  NamesKey t keys = ((key : Text) × IsSingleKey t key × (keys ≡ Field key)) ⊎ (((key : Text) → ¬ IsSingleKey t key) × (keys ≡ AnyField))

  -- such a shape stands in some shape of the type at an index that i names
  abbrev pub StandsAtIndex : SemType → SemType → Shape → Type 0
  StandsAtIndex t i x = (keys : Keys) × NamesIndex i keys × StandsAt env t keys x

  abbrev pub StandsAtKey : SemType → SemType → Shape → Type 0
  StandsAtKey t k x = (keys : Keys) × NamesKey k keys × StandsAt env t keys x

  -- each of as many operands is below its type
  abbrev pub AreBelow : List SemType → List SemType → Type 0
  AreBelow operands types = AllZip (λ s t. IsWithin (λ x. In env x t) s) operands types

  -- ---- functions and their arguments

  -- some function of f answers so to some arguments of these types
  abbrev pub MayAnswer : SemType → List SemType → Option Shape → Type 0
  MayAnswer f args answer = (x : Shape) × (c : Case) × IsShapeOf env f x × AnswersIn x c
      × AllZip (λ y t. IsShapeOf env t y) (shapes_list c.args) args × (c.result ≡ answer)

  -- no function of f fails at arguments of these types
  abbrev pub NeverFails : SemType → List SemType → Type 0
  NeverFails f args = ¬ MayAnswer f args None

  -- x is a result that some function of f gives to some arguments of these types
  abbrev pub MayGive : SemType → List SemType → Shape → Type 0
  MayGive f args x = MayAnswer f args (Some x)
