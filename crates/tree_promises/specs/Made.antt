-- What is made of typed parts: for each expression, what its parts have to be so that the whole is typed.
use Rattle.std.specs.Prelude.{◌≡◌, ◌⊎◌, ◌++◌, ℕ, Bool, true, false, List, [], ◌∷◌, length, map, Some, slice_get, ⊤}
use Rattle.bal_base.specs.declared.place.Place.{Place}
use Rattle.bal_base.specs.declared.shape.Shape.{Shape, Bool as BoolShape}
use Rattle.type_model.specs.declared.atoms.AtomDef.{AtomDef}
use Rattle.type_model.specs.declared.basic.SemType.{SemType}
use Rattle.type_model.specs.Anydata.{IsAnydata}
use Rattle.type_model.specs.Inclusion.{HasExactly, Sub}
use Rattle.type_model.specs.Membership.{In}
use Rattle.operations.specs.declared.operation.Constant.{Constant}
use Rattle.operations.specs.declared.operation.Operation.{Operation}
use Rattle.operations.specs.Kinds.{IsBoolean, IsError, IsInteger, IsString}
use Rattle.operations.specs.Rows.{IsWithin, One, ResultHas, Surroundings, Two, shape_of}
use Rattle.operations.specs.Typing.{OpTyped}
use Rattle.typed_tree.specs.declared.expr.AnonymousFunction.{AnonymousFunction}
use Rattle.typed_tree.specs.declared.expr.TypedExpr.{TypedExpr}
use Rattle.typed_tree.specs.declared.form.Operator.{Operator}
use Rattle.typed_tree.specs.declared.form.Operator.TheVariants as operator
use Rattle.typed_tree.specs.declared.form.StrictForm.{StrictForm}
use Rattle.typed_tree.specs.declared.unit.Captured.{Captured}
use Rattle.typed_tree.specs.Exprs.{type_of}
use Rattle.typed_tree.specs.SharedTypes.{Shared, sem_of}
use Rattle.typed_tree.specs.Views.{IsAnd, IsCheck, IsConditional, IsElvis, IsFunctionOf, IsImplied, IsLocal, IsOr, IsParens, IsStrict, IsTrap}
use Rattle.held_operations.specs.Constructs.{operations_of, operator_operations}
use Rattle.eval_model.specs.Expressions.{error_type, makes_function}
use Rattle.eval_model.specs.Walk.{OpsOver}
use Rattle.tree_promises.specs.Types.{IsTypedExpr, Stack, type_ways}

-- the type of an expression as a set of shapes
abbrev pub sem : TypedExpr → SemType
sem e = sem_of (type_of e)

-- ---- operators

module _ (env : List AtomDef) where
  abbrev pub Ints : SemType → Type 0
  Ints = IsWithin env IsInteger

  abbrev pub Strings : SemType → Type 0
  Strings = IsWithin env IsString

  abbrev pub Booleans : SemType → Type 0
  Booleans = IsWithin env IsBoolean

  abbrev pub TwoInts : Stack → Type 0
  TwoInts os = Two os (λ a b. Ints a × Ints b)

  abbrev pub TwoStrings : Stack → Type 0
  TwoStrings os = Two os (λ a b. Strings a × Strings b)

  abbrev pub AreComparable : Stack → Type 0
  AreComparable os = Two os (λ a b. IsWithin env IsAnydata a × IsWithin env IsAnydata b)

  -- the operands that the operator takes (Ballerina specification, sections "Multiplicative expressions" to "Equality expressions")
  abbrev pub OperandsFit : Operator → Stack → Type 0
  OperandsFit operator.Negate os = One os Ints
  OperandsFit operator.Not os = One os Booleans
  OperandsFit operator.Multiply os = TwoInts os
  OperandsFit operator.Divide os = TwoInts os
  OperandsFit operator.Remainder os = TwoInts os
  OperandsFit operator.Add os = TwoInts os
  OperandsFit operator.Concat os = TwoStrings os
  OperandsFit operator.Subtract os = TwoInts os
  OperandsFit operator.Less os = TwoInts os ⊎ TwoStrings os
  OperandsFit operator.LessEqual os = TwoInts os ⊎ TwoStrings os
  OperandsFit operator.Greater os = TwoInts os ⊎ TwoStrings os
  OperandsFit operator.GreaterEqual os = TwoInts os ⊎ TwoStrings os
  OperandsFit operator.Equal os = AreComparable os
  OperandsFit operator.NotEqual os = AreComparable os
  OperandsFit operator.Same os = Two os (λ a b. ⊤)
  OperandsFit operator.NotSame os = Two os (λ a b. ⊤)

-- what the operator gives
abbrev pub GivenBy : Operator → Shape → Type 0
GivenBy operator.Negate = IsInteger
GivenBy operator.Not = IsBoolean
GivenBy operator.Multiply = IsInteger
GivenBy operator.Divide = IsInteger
GivenBy operator.Remainder = IsInteger
GivenBy operator.Add = IsInteger
GivenBy operator.Concat = IsString
GivenBy operator.Subtract = IsInteger
GivenBy operator.Less = IsBoolean
GivenBy operator.LessEqual = IsBoolean
GivenBy operator.Greater = IsBoolean
GivenBy operator.GreaterEqual = IsBoolean
GivenBy operator.Equal = IsBoolean
GivenBy operator.NotEqual = IsBoolean
GivenBy operator.Same = IsBoolean
GivenBy operator.NotSame = IsBoolean

module _ (env : List AtomDef) (place : Surroundings) where
  -- over any operands the operations take these, and leave one of the type
  abbrev pub LeadsTo : List Operation → Stack → SemType → Type 0
  LeadsTo ops operands t = (below : Stack) → OpsOver (type_ways env place) ops (below ++ operands) (below ++ t ∷ [])

  abbrev pub AreTypedExprs : List TypedExpr → Type 0
  AreTypedExprs [] = ⊤
  AreTypedExprs (e ∷ es) = IsTypedExpr env place e × AreTypedExprs es

  -- a slot's declared type is below this one
  abbrev pub SlotIsBelow : ℕ → SemType → Type 0
  SlotIsBelow slot t = (s : SemType) × (slice_get place.slots slot ≡ Some s) × Sub env s t

  -- what is captured is of its type: by the declared type of its slot, unless it is narrowed
  abbrev pub CapturedIsTyped : Captured → Type 0
  CapturedIsTyped c = (s : SemType) × (slice_get place.slots c.slot ≡ Some s) × (c.narrowed ≡ false → Sub env s (sem_of c.ty))

  abbrev pub AllCapturedTyped : List Captured → Type 0
  AllCapturedTyped [] = ⊤
  AllCapturedTyped (c ∷ cs) = CapturedIsTyped c × AllCapturedTyped cs

  -- the errors among what the slot keeps are results of the unit, as this type says
  abbrev pub ErrorsAreResults : SemType → Type 0
  ErrorsAreResults s = (errors : SemType) × HasExactly env errors (λ x. In env x s × IsError x) × Sub env errors place.result

  -- `truth`: a type of the booleans
  pub record MadeIsTyped (truth : SemType) : Type 0 where
    pub strict : (form : StrictForm) (parts : List TypedExpr) (t : Shared) (at : Place) (e : TypedExpr) → IsStrict form parts t at e
        → AreTypedExprs parts → LeadsTo (operations_of form (length parts)) (map sem parts) (sem_of t) → IsTypedExpr env place e
    -- one operation by one of its rows, and two, one behind the other
    pub one_row : (op : Operation) (operands : Stack) (t : SemType) → OpTyped env place op operands (Some t) → LeadsTo (op ∷ []) operands t
    pub two_rows : (op next : Operation) (operands : Stack) (m t : SemType) → OpTyped env place op operands (Some m)
        → OpTyped env place next (m ∷ []) (Some t) → LeadsTo (op ∷ next ∷ []) operands t
    pub operators : (op : Operator) (operands : Stack) (t : SemType) → HasExactly env truth IsBoolean → OperandsFit env op operands
        → ResultHas env (Some t) (GivenBy op) → LeadsTo (operator_operations op) operands t
    pub implied : (c : Constant) (t : Shared) (at : Place) (e : TypedExpr) → IsImplied c t at e → ResultHas env (Some (sem_of t)) (λ x. x ≡ shape_of c)
        → IsTypedExpr env place e
    pub loaded : (slot : ℕ) (t : Shared) (at : Place) (e : TypedExpr) → IsLocal slot false t at e → SlotIsBelow slot (sem_of t)
        → IsTypedExpr env place e
    pub narrowed : (slot : ℕ) (t : Shared) (at : Place) (e : TypedExpr) (s : SemType) → IsLocal slot true t at e → slice_get place.slots slot ≡ Some s
        → IsTypedExpr env place e
    pub conjoined : (a b : TypedExpr) (t : Shared) (at : Place) (e : TypedExpr) → IsAnd a b t at e → IsTypedExpr env place a → IsTypedExpr env place b
        → Booleans env (sem a) → Sub env (sem b) (sem_of t) → ResultHas env (Some (sem_of t)) (λ x. x ≡ BoolShape false) → IsTypedExpr env place e
    pub disjoined : (a b : TypedExpr) (t : Shared) (at : Place) (e : TypedExpr) → IsOr a b t at e → IsTypedExpr env place a → IsTypedExpr env place b
        → Booleans env (sem a) → Sub env (sem b) (sem_of t) → ResultHas env (Some (sem_of t)) (λ x. x ≡ BoolShape true) → IsTypedExpr env place e
    pub chosen : (c a b : TypedExpr) (t : Shared) (at : Place) (e : TypedExpr) → IsConditional c a b t at e
        → IsTypedExpr env place c → IsTypedExpr env place a → IsTypedExpr env place b
        → Booleans env (sem c) → Sub env (sem a) (sem_of t) → Sub env (sem b) (sem_of t) → IsTypedExpr env place e
    -- what is kept is of the slot's type; as what of it isn't nil, it is loaded by a cast
    pub filled : (own : ℕ) (a b : TypedExpr) (t : Shared) (at : Place) (e : TypedExpr) (s : SemType) → HasExactly env truth IsBoolean
        → IsElvis own a b t at e → IsTypedExpr env place a → IsTypedExpr env place b
        → slice_get place.slots own ≡ Some s → Sub env (sem a) s → Sub env (sem b) (sem_of t) → IsTypedExpr env place e
    pub checked : (panics : Bool) (own : ℕ) (a : TypedExpr) (t : Shared) (at : Place) (e : TypedExpr) (s : SemType) → HasExactly env truth IsBoolean
        → IsCheck panics own a t at e → IsTypedExpr env place a → slice_get place.slots own ≡ Some s → Sub env (sem a) s
        → (panics ≡ false → ErrorsAreResults s) → IsTypedExpr env place e
    pub trapped : (a : TypedExpr) (t : Shared) (at : Place) (e : TypedExpr) → IsTrap a t at e → IsTypedExpr env place a
        → Sub env (sem a) (sem_of t) → Sub env error_type (sem_of t) → IsTypedExpr env place e
    pub function : (f : AnonymousFunction) (value : TypedExpr) (t : Shared) (at : Place) (e : TypedExpr) → IsFunctionOf f value t at e
        → AllCapturedTyped f.captured → OpTyped env place (makes_function f) (map (λ c. sem_of c.ty) f.captured) (Some (sem_of t))
        → IsTypedExpr env place e
    pub enclosed : (a : TypedExpr) (t : Shared) (at : Place) (e : TypedExpr) → IsParens a t at e → IsTypedExpr env place a
        → sem a ≡ sem_of t → IsTypedExpr env place e
