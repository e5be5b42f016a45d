-- What needs that are met say of parts, and what they make of typed ones, over all atoms that there are at the end.
use Rattle.std.specs.Prelude.{◌≡◌, ◌++◌, ℕ, Bool, List, [], ◌∷◌, map, Some}
use Rattle.bal_base.specs.declared.place.Place.{Place}
use Rattle.bal_base.specs.declared.shape.Shape.{Shape}
use Rattle.bal_tree.specs.declared.name.Literal.{Literal}
use Rattle.checks.specs.Checks.{Gives}
use Rattle.descriptors.specs.declared.names.Names.{Names}
use Rattle.type_model.specs.declared.answers.TypeLimit.{TypeLimit}
use Rattle.type_model.specs.declared.atoms.AtomDef.{AtomDef}
use Rattle.type_model.specs.declared.basic.SemType.{SemType}
use Rattle.type_model.specs.Calls.{Asked, KeepsTypes}
use Rattle.type_model.specs.Inclusion.{HasExactly, Sub}
use Rattle.operations.specs.Kinds.{IsBoolean}
use Rattle.operations.specs.Rows.{IsWithin, Surroundings}
use Rattle.typed_tree.specs.declared.expr.TypedExpr.{TypedExpr}
use Rattle.typed_tree.specs.declared.form.Operator.{Operator}
use Rattle.typed_tree.specs.SharedTypes.{Shared, sem_of}
use Rattle.expr_needs.specs.declared.kind.Kind.{Kind}
use Rattle.expr_needs.specs.Needs.{Need, Adds, Compares, Conjoins, Disjoins, Encloses, Forms, GivesLiteral, IsOf, IsWanted, Traps, Turns}
use Rattle.check_words.specs.Kinds.{IsOfKind}
use Rattle.check_words.specs.Meets.{meets}
use Rattle.check_words.specs.Stands.{Stands}
use Rattle.check_words.specs.State.{AreLast, IsLast, State, all_but}
use Rattle.check_words.specs.Values.{operator_of}
use Rattle.tree_promises.specs.Made.{AreTypedExprs, Booleans, GivenBy, OperandsFit, sem}
use Rattle.tree_promises.specs.Types.{IsTypedExpr}

-- all types of the state name atoms that are there, and have the same shapes over those at the end
pub record IsBefore (env : List AtomDef) (s : State) : Type 0 where
  pub stands : Stands s
  pub keeps : KeepsTypes s.atoms env

-- `passes`: which questions pass a limit; `names`: what names stand for; `env`: the atoms at the end
module _ (passes : List AtomDef → Asked → TypeLimit → Type 0) (names : Names) (env : List AtomDef) where
  abbrev pub IsMet : Need → State → State → Type 0
  IsMet need old new = meets passes names need old (Gives tt) new

  -- ---- what is asked

  -- the last part is of the kind
  abbrev pub KindIsAsked : Type 0
  KindIsAsked =
      (kind : Kind) (at : Place) (old new : State) (e : TypedExpr) → IsBefore env old → IsMet (IsOf kind at) old new → IsLast old.found e
      → IsWithin env (IsOfKind kind) (sem e) × (new.found ≡ old.found)

  -- the last part is below what is wanted
  abbrev pub WantIsAsked : Type 0
  WantIsAsked =
      (at : Place) (old new : State) (t : Shared) (e : TypedExpr) → IsBefore env old → IsMet (IsWanted at) old new → IsLast old.wants (Some t)
      → IsLast old.found e → Sub env (sem e) (sem_of t) × (new.found ≡ old.found)

  -- ---- what is made

  module _ (place : Surroundings) where
    -- in place of so many parts there is one that is typed
    pub record MakesTyped (count : ℕ) (old new : State) : Type 0 where
      pub part : TypedExpr
      pub found : new.found ≡ all_but count old.found ++ part ∷ []
      pub typed : IsTypedExpr env place part

    abbrev pub LiteralIsTyped : Type 0
    LiteralIsTyped = (l : Literal) (old new : State) → IsBefore env new → IsMet (GivesLiteral l) old new → MakesTyped 0 old new

    -- `truth`: a type of the booleans
    abbrev pub OperatorIsTyped : Type 0
    OperatorIsTyped =
        (op : Operator) (count : ℕ) (kind : Kind) (at : Place) (old new : State) (parts : List TypedExpr) (truth : SemType) → IsBefore env new
        → IsMet (Forms op count kind at) old new → AreLast old.found count parts → AreTypedExprs env place parts
        → OperandsFit env op (map sem parts) → ((x : Shape) → GivenBy op x → IsOfKind kind x) → HasExactly env truth IsBoolean → MakesTyped count old new

    -- on ints where that was decided, and else on strings
    abbrev pub SumIsTyped : Type 0
    SumIsTyped =
        (at : Place) (old new : State) (parts : List TypedExpr) (ints : Bool) (truth : SemType) → IsBefore env new → IsMet (Adds at) old new
        → IsLast old.sorts ints → AreLast old.found 2 parts → AreTypedExprs env place parts → OperandsFit env (operator_of ints) (map sem parts)
        → HasExactly env truth IsBoolean → MakesTyped 2 old new

    abbrev pub ComparisonIsTyped : Type 0
    ComparisonIsTyped =
        (op : Operator) (at : Place) (old new : State) (parts : List TypedExpr) (truth : SemType) → IsBefore env new → IsMet (Compares op at) old new
        → AreLast old.found 2 parts → AreTypedExprs env place parts → OperandsFit env op (map sem parts)
        → ((x : Shape) → GivenBy op x → IsBoolean x) → HasExactly env truth IsBoolean → MakesTyped 2 old new

    abbrev pub NegationIsTyped : Type 0
    NegationIsTyped =
        (at : Place) (old new : State) (e : TypedExpr) (truth : SemType) → IsBefore env new → IsMet (Turns at) old new → IsLast old.found e
        → IsTypedExpr env place e → Booleans env (sem e) → HasExactly env truth IsBoolean → MakesTyped 1 old new

    abbrev pub ConjunctionIsTyped : Type 0
    ConjunctionIsTyped =
        (at : Place) (old new : State) (a b : TypedExpr) → IsBefore env new → IsMet (Conjoins at) old new → AreLast old.found 2 (a ∷ b ∷ [])
        → IsTypedExpr env place a → IsTypedExpr env place b → Booleans env (sem a) → Booleans env (sem b) → MakesTyped 2 old new

    abbrev pub DisjunctionIsTyped : Type 0
    DisjunctionIsTyped =
        (at : Place) (old new : State) (a b : TypedExpr) → IsBefore env new → IsMet (Disjoins at) old new → AreLast old.found 2 (a ∷ b ∷ [])
        → IsTypedExpr env place a → IsTypedExpr env place b → Booleans env (sem a) → Booleans env (sem b) → MakesTyped 2 old new

    abbrev pub ParensAreTyped : Type 0
    ParensAreTyped =
        (at : Place) (old new : State) (e : TypedExpr) → IsMet (Encloses at) old new → IsLast old.found e → IsTypedExpr env place e → MakesTyped 1 old new

    abbrev pub TrapIsTyped : Type 0
    TrapIsTyped =
        (at : Place) (old new : State) (e : TypedExpr) → IsBefore env old → IsBefore env new → IsMet (Traps at) old new → IsLast old.found e
        → IsTypedExpr env place e → MakesTyped 1 old new

-- ---- the laws, of each package, whatever atoms there are at the end

abbrev pub KindsAreAsked : (List AtomDef → Asked → TypeLimit → Type 0) → Type 0
KindsAreAsked passes = (names : Names) (env : List AtomDef) → KindIsAsked passes names env

abbrev pub WantsAreAsked : (List AtomDef → Asked → TypeLimit → Type 0) → Type 0
WantsAreAsked passes = (names : Names) (env : List AtomDef) → WantIsAsked passes names env

abbrev pub LiteralsAreTyped : (List AtomDef → Asked → TypeLimit → Type 0) → Type 0
LiteralsAreTyped passes = (names : Names) (env : List AtomDef) (place : Surroundings) → LiteralIsTyped passes names env place

abbrev pub OperatorsAreTyped : (List AtomDef → Asked → TypeLimit → Type 0) → Type 0
OperatorsAreTyped passes = (names : Names) (env : List AtomDef) (place : Surroundings) → OperatorIsTyped passes names env place

abbrev pub TrapsAreTyped : (List AtomDef → Asked → TypeLimit → Type 0) → Type 0
TrapsAreTyped passes = (names : Names) (env : List AtomDef) (place : Surroundings) → TrapIsTyped passes names env place

abbrev pub SumsAreTyped : (List AtomDef → Asked → TypeLimit → Type 0) → Type 0
SumsAreTyped passes = (names : Names) (env : List AtomDef) (place : Surroundings) → SumIsTyped passes names env place

abbrev pub ComparisonsAreTyped : (List AtomDef → Asked → TypeLimit → Type 0) → Type 0
ComparisonsAreTyped passes = (names : Names) (env : List AtomDef) (place : Surroundings) → ComparisonIsTyped passes names env place

-- what conditions are put together of, and what stands in parentheses
pub record ConditionsAreTyped (passes : List AtomDef → Asked → TypeLimit → Type 0) (names : Names) (env : List AtomDef) (place : Surroundings) : Type 0 where
  pub negations : NegationIsTyped passes names env place
  pub conjunctions : ConjunctionIsTyped passes names env place
  pub disjunctions : DisjunctionIsTyped passes names env place
  pub enclosed : ParensAreTyped passes names env place

abbrev pub AllConditionsAreTyped : (List AtomDef → Asked → TypeLimit → Type 0) → Type 0
AllConditionsAreTyped passes = (names : Names) (env : List AtomDef) (place : Surroundings) → ConditionsAreTyped passes names env place
