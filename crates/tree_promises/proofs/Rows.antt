-- Operations by their rows, over any operands below.
use Rattle.std.proofs.Common.{◌≡◌, ◌++◌, ◌⊎◌, ⊎_elim, inl, inr, ℕ, List, [], ◌∷◌, Some, None, append-nil, refl, sym, subst}
use Rattle.std.specs.Prelude.{IsSomeAnd, slice_get, ⊤}
use Rattle.bal_base.specs.declared.shape.Shape.{Shape}
use Rattle.type_model.specs.declared.atoms.AtomDef.{AtomDef}
use Rattle.type_model.specs.declared.basic.SemType.{SemType}
use Rattle.type_model.specs.Inclusion.{HasExactly, Sub}
use Rattle.type_model.specs.Membership.{In}
use Rattle.operations.specs.declared.operation.Constant.{Constant}
use Rattle.operations.specs.declared.operation.Operation.{Operation}
use Rattle.operations.specs.declared.operation.Operation.TheVariants.{Add, Cast, Concat, Const, Divide, Equal, Less, LessEqual, Load, Multiply, Negate, Not, Remainder, Same, Store, Subtract}
use Rattle.type_model.specs.Anydata.{IsAnydata}
use Rattle.operations.specs.Kinds.{IsBoolean, IsInteger, IsString}
use Rattle.operations.specs.Rows.{AreBelow, IsWithin, One, ResultHas, Surroundings, Two, shape_of}
use Rattle.operations.specs.Typing.{OpTyped}
use Rattle.typed_tree.specs.declared.form.Operator.{Operator}
use Rattle.typed_tree.specs.declared.form.Operator.TheVariants as operator
use Rattle.held_operations.specs.Constructs.{operator_operations}
use Rattle.tree_promises.specs.Made.{Booleans, GivenBy, Ints, LeadsTo, OperandsFit, Strings, TwoInts, TwoStrings}
use Rattle.tree_promises.specs.Types.{DoesTypes, GetsTypes, Stack, TakesTypes}
use Rattle.tree_promises.proofs.Order.{types-itself}

module _ (env : List AtomDef) (place : Surroundings) where
  -- the last operand is of a wider type
  pub last-wider : (below : Stack) (s t : SemType) → Sub env s t → AreBelow env (below ++ s ∷ []) (below ++ t ∷ [])
  last-wider [] s t f = ((λ x is. f x is.0 is.1), tt)
  last-wider (b ∷ bs) s t f = ((λ x is. is.1), last-wider bs s t f)

  -- ---- one operation

  pub does-row : (op : Operation) (below operands : Stack) (t : SemType) → OpTyped env place op operands (Some t)
      → DoesTypes env place op (below ++ operands) (below ++ t ∷ [])
  does-row op below operands t row =
      record { below = below; operands = operands; result = Some t; are = refl; row = row; behind = λ goes. types-itself env (below ++ t ∷ []) }

  -- one that takes no operand
  pub given-row : (op : Operation) (below : Stack) (s t : SemType) → OpTyped env place op [] (Some s) → Sub env s t
      → DoesTypes env place op below (below ++ t ∷ [])
  given-row op below s t row under =
      record { below = below; operands = []; result = Some s; are = sym (append-nil below); row = row; behind = λ goes. last-wider below s t under }

  pub const-given : (c : Constant) (below : Stack) (t : SemType) → ResultHas env (Some t) (λ x. x ≡ shape_of c) → DoesTypes env place (Const c) below (below ++ t ∷ [])
  const-given c below t has = given-row (Const c) below t t (refl, has) (λ x valid is. is)

  pub load-given : (slot : ℕ) (below : Stack) (s t : SemType) → slice_get place.slots slot ≡ Some s → Sub env s t
      → DoesTypes env place (Load slot) below (below ++ t ∷ [])
  load-given slot below s t is under =
      let reads : IsSomeAnd (slice_get place.slots slot) (λ h. ResultHas env (Some s) (λ x. In env x h)) =
      subst (λ o. IsSomeAnd o (λ h. ResultHas env (Some s) (λ x. In env x h))) (sym is) (λ x valid i. i) in
      given-row (Load slot) below s t (refl, reads) under

  -- what is stored is taken
  pub store-taken : (slot : ℕ) (below : Stack) (s t : SemType) → slice_get place.slots slot ≡ Some t → Sub env s t
      → DoesTypes env place (Store slot) (below ++ s ∷ []) below
  store-taken slot below s t is under =
      record {
        below = below;
        operands = s ∷ [];
        result = None;
        are = refl;
        row = (subst (λ o. IsSomeAnd o (λ h. IsWithin env (λ x. In env x h) s)) (sym is) (λ x i. under x i.0 i.1), refl);
        behind = λ goes. subst (λ z. AreBelow env z below) (sym (append-nil below)) (types-itself env below);
      }

  -- what is loaded is cast to a type that has all that is of both
  pub cast-given : (slot : ℕ) (below : Stack) (s t u : SemType) → slice_get place.slots slot ≡ Some s
      → ResultHas env (Some u) (λ x. In env x s × In env x t) → GetsTypes env place slot (Some t) below (below ++ u ∷ [])
  cast-given slot below s t u is has = (below ++ s ∷ [], load-given slot below s s is (λ x valid i. i), does-row (Cast t) below (s ∷ []) u has)

  pub takes-last : (below : Stack) (t : SemType) → IsWithin env IsBoolean t → TakesTypes env place (below ++ t ∷ []) below
  takes-last below t boolean = record { below = below; condition = t; are = refl; boolean = boolean; behind = types-itself env below }

  -- ---- one behind another

  pub one-row : (op : Operation) (operands : Stack) (t : SemType) → OpTyped env place op operands (Some t) → LeadsTo env place (op ∷ []) operands t
  one-row op operands t row below = (below ++ t ∷ [], does-row op below operands t row, types-itself env (below ++ t ∷ []))

  pub two-rows : (op next : Operation) (operands : Stack) (m t : SemType) → OpTyped env place op operands (Some m)
      → OpTyped env place next (m ∷ []) (Some t) → LeadsTo env place (op ∷ next ∷ []) operands t
  two-rows op next operands m t first second below =
      (below ++ m ∷ [], does-row op below operands m first, one-row next (m ∷ []) t second below)

  -- ---- operators

  one-and : (P : SemType → Type 0) (R : Type 0) (os : Stack) → One os P → R → One os (λ a. P a × R)
  one-and P R (a ∷ []) h r = (h, r)
  one-and P R [] h r = absurd h
  one-and P R (a ∷ b ∷ os) h r = absurd h

  two-and : (P : SemType → Type 0) (R : Type 0) (os : Stack) → Two os (λ a b. P a × P b) → R → Two os (λ a b. P a × P b × R)
  two-and P R (a ∷ b ∷ []) h r = (h.0, h.1, r)
  two-and P R [] h r = absurd h
  two-and P R (a ∷ []) h r = absurd h
  two-and P R (a ∷ b ∷ c ∷ os) h r = absurd h

  two-only : (R : Type 0) (os : Stack) → Two os (λ a b. ⊤) → R → Two os (λ a b. R)
  two-only R (a ∷ b ∷ []) h r = r
  two-only R [] h r = absurd h
  two-only R (a ∷ []) h r = absurd h
  two-only R (a ∷ b ∷ c ∷ os) h r = absurd h

  module _ (truth : SemType) (is : HasExactly env truth IsBoolean) where
    pub truth-has : ResultHas env (Some truth) IsBoolean
    truth-has x valid b = (is x valid).1 b

    pub truth-is : IsWithin env IsBoolean truth
    truth-is x i = (is x i.0).0 i.1

    abbrev Gives : (Shape → Type 0) → SemType → Type 0
    Gives P t = ResultHas env (Some t) P

    compared : (os : Stack) (t : SemType) → TwoInts env os ⊎ TwoStrings env os → Gives IsBoolean t → OpTyped env place Less os (Some t)
    compared os t fit has =
        ⊎_elim (λ ints. inl (two-and (Ints env) (Gives IsBoolean t) os ints has)) (λ texts. inr (two-and (Strings env) (Gives IsBoolean t) os texts has)) fit

    -- what isn't so
    denied : (op : Operation) (os : Stack) (t : SemType) → OpTyped env place op os (Some truth) → Gives IsBoolean t → LeadsTo env place (op ∷ Not ∷ []) os t
    denied op os t row has = two-rows op Not os truth t row (truth-is, has)

    pub operator-leads : (op : Operator) (os : Stack) (t : SemType) → OperandsFit env op os → ResultHas env (Some t) (GivenBy op)
        → LeadsTo env place (operator_operations op) os t
    operator-leads operator.Negate os t fit has = one-row Negate os t (one-and (Ints env) (Gives IsInteger t) os fit has)
    operator-leads operator.Not os t fit has = one-row Not os t (one-and (Booleans env) (Gives IsBoolean t) os fit has)
    operator-leads operator.Multiply os t fit has = one-row Multiply os t (two-and (Ints env) (Gives IsInteger t) os fit has)
    operator-leads operator.Divide os t fit has = one-row Divide os t (two-and (Ints env) (Gives IsInteger t) os fit has)
    operator-leads operator.Remainder os t fit has = one-row Remainder os t (two-and (Ints env) (Gives IsInteger t) os fit has)
    operator-leads operator.Add os t fit has = one-row Add os t (two-and (Ints env) (Gives IsInteger t) os fit has)
    operator-leads operator.Concat os t fit has = one-row Concat os t (two-and (Strings env) (Gives IsString t) os fit has)
    operator-leads operator.Subtract os t fit has = one-row Subtract os t (two-and (Ints env) (Gives IsInteger t) os fit has)
    operator-leads operator.Less os t fit has = one-row Less os t (compared os t fit has)
    operator-leads operator.LessEqual os t fit has = one-row LessEqual os t (compared os t fit has)
    operator-leads operator.Greater os t fit has = denied LessEqual os t (compared os truth fit truth-has) has
    operator-leads operator.GreaterEqual os t fit has = denied Less os t (compared os truth fit truth-has) has
    operator-leads operator.Equal os t fit has = one-row Equal os t (two-and (IsWithin env IsAnydata) (Gives IsBoolean t) os fit has)
    operator-leads operator.NotEqual os t fit has = denied Equal os t (two-and (IsWithin env IsAnydata) (Gives IsBoolean truth) os fit truth-has) has
    operator-leads operator.Same os t fit has = one-row Same os t (two-only (Gives IsBoolean t) os fit has)
    operator-leads operator.NotSame os t fit has = denied Same os t (two-only (Gives IsBoolean truth) os fit truth-has) has
