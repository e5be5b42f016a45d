-- Declarations and assignments, as typed statements.
use Rattle.std.specs.Prelude.{slice_get, IfSome, IsSomeAnd, Bool, List, None, Ok, Option, Some, [], ℕ, ◌++◌, ◌∷◌, ◌≡◌, ◌↔◌}
use Rattle.bal_base.specs.declared.place.Place.{Place}
use Rattle.bal_base.specs.declared.shape.Shape.{Shape}
use Rattle.bal_base.specs.declared.text.Name.{Name}
use Rattle.bal_tree.specs.declared.name.QualifiedName.{QualifiedName}
use Rattle.check_words.specs.Seen.{Seen, SeenVariable, SeenWorker, SeenConstant, SeenLibrary, SeenMeaning, SeenNothing, seen_as}
use Rattle.check_words.specs.State.{IsLast, State, UnitAtWork}
use Rattle.descriptors.specs.Naming.{meaning_named}
use Rattle.descriptors.specs.declared.names.Meaning.TheVariants as meaning
use Rattle.descriptors.specs.declared.names.Names.{Names}
use Rattle.descriptors.specs.declared.names.Scope.{Scope}
use Rattle.expr_needs.specs.Needs.{Assigns, Declares, IsAssignable}
use Rattle.operations.specs.Rows.{Surroundings}
use Rattle.tree_promises.specs.Made.{sem}
use Rattle.tree_promises.specs.Types.{IsTypedExpr}
use Rattle.type_model.specs.Calls.{Asked}
use Rattle.type_model.specs.Inclusion.{Sub}
use Rattle.type_model.specs.Membership.{In}
use Rattle.type_model.specs.declared.answers.TypeLimit.{TypeLimit}
use Rattle.type_model.specs.declared.atoms.AtomDef.{AtomDef}
use Rattle.type_model.specs.declared.basic.SemType.{SemType}
use Rattle.type_model.specs.declared.basic.Ty.{Ty}
use Rattle.typed_needs.specs.Pieces.{IsMet}
use Rattle.typed_needs.specs.Placing.{AreStored, IsPlaced}
use Rattle.typed_stmts.specs.Adding.{AddsTyped}
use Rattle.typed_tree.specs.SharedTypes.{Shared, sem_of}
use Rattle.typed_tree.specs.declared.expr.TypedExpr.{TypedExpr}

-- the declared type of what a name stands for that may be assigned: a variable of the unit, or one of a module
abbrev pub assigned_type : Seen → Option SemType
assigned_type (SeenVariable v) = Some (sem_of v.declared)
assigned_type (SeenMeaning (meaning.Variable number final t)) = Some t.sem
assigned_type (SeenMeaning (meaning.TypeName t)) = None
assigned_type (SeenMeaning (meaning.Constant t)) = None
assigned_type (SeenMeaning (meaning.Function f)) = None
assigned_type (SeenWorker w) = None
assigned_type (SeenConstant c) = None
assigned_type (SeenLibrary r) = None
assigned_type (SeenNothing code) = None

-- both have the same shapes
abbrev pub HasSame : List AtomDef → SemType → SemType → Type 0
HasSame env s t = (x : Shape) → In env x s ↔ In env x t

-- what the name stands for in the unit at hand
abbrev pub Sees : Names → State → QualifiedName → Seen → Type 0
Sees names s q seen = (u : UnitAtWork) × IsLast s.units u × (seen ≡ seen_as names s.site u.flow.variables q)

-- each variable of a module takes at the place all that is of its type
abbrev pub TakeValues : List AtomDef → Names → Surroundings → Type 0
TakeValues env names place =
    (scope : Scope) (q : QualifiedName) (number : ℕ) (final : Bool) (t : Ty) → meaning_named names scope q ≡ Ok (meaning.Variable number final t)
    → IsSomeAnd (slice_get place.variables number) (λ s. Sub env t.sem s)

module _ (passes : List AtomDef → Asked → TypeLimit → Type 0) (names : Names) (env : List AtomDef) where
  -- a type with the shapes of what is assigned is wanted
  abbrev pub AssignableIsWanted : Type 0
  AssignableIsWanted =
      (q : QualifiedName) (old new : State) (seen : Seen) → IsMet passes names env (IsAssignable q) old new → Sees names old q seen
      → (w : Shared) × (new ≡ record old { wants = old.wants ++ Some w ∷ [] }) × IsSomeAnd (assigned_type seen) (λ t. HasSame env t (sem_of w))

  module _ (place : Surroundings) (inside : Bool) where
    -- a variable that is declared stands in a slot of its own, and its value is below the declared type
    abbrev pub DeclarationIsTyped : Type 0
    DeclarationIsTyped =
        (name : Name) (final assigned : Bool) (at : Place) (old new : State) (e : TypedExpr) (t : Shared) → IsMet passes names env (Declares name final assigned at) old new
        → IsLast old.found e → IsTypedExpr env place e → IsLast old.wants (Some t) → Sub env (sem e) (sem_of t) → IsPlaced place new → AddsTyped env place inside [] old new

    -- what is assigned is below the type of what the name stands for
    abbrev pub AssignmentIsTyped : Type 0
    AssignmentIsTyped =
        (q : QualifiedName) (at : Place) (old new : State) (e : TypedExpr) (seen : Seen) → IsMet passes names env (Assigns q at) old new
        → IsLast old.found e → IsTypedExpr env place e → Sees names old q seen → IfSome (assigned_type seen) (Sub env (sem e)) → AreStored place old
        → TakeValues env names place → AddsTyped env place inside [] old new

    pub record AssignmentsAreTyped : Type 0 where
      pub declared : DeclarationIsTyped
      pub wanted : AssignableIsWanted
      pub assigned : AssignmentIsTyped

abbrev pub AllAssignmentsAreTyped : (List AtomDef → Asked → TypeLimit → Type 0) → Type 0
AllAssignmentsAreTyped passes = (names : Names) (env : List AtomDef) (place : Surroundings) (inside : Bool) → AssignmentsAreTyped passes names env place inside
