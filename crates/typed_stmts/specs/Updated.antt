-- Assignments with an operator to names, as typed statements.
use Rattle.std.specs.Prelude.{⊤, IsSomeAnd, Bool, IfSome, List, None, Option, Some, [], true, ◌++◌, ◌∷◌, ◌≡◌}
use Rattle.bal_base.specs.declared.place.Place.{Place}
use Rattle.bal_tree.specs.declared.name.QualifiedName.{QualifiedName}
use Rattle.bal_tree.specs.declared.stmt.AssignOp.TheVariants.{Set, Add, Subtract, Multiply, Divide}
use Rattle.bal_tree.specs.declared.stmt.AssignOp.{AssignOp}
use Rattle.check_words.specs.Kinds.{IsOfKind}
use Rattle.check_words.specs.Seen.{Seen, SeenVariable, SeenWorker, SeenConstant, SeenLibrary, SeenMeaning, SeenNothing}
use Rattle.check_words.specs.State.{AreLast, IsLast, State, shared_now}
use Rattle.check_words.specs.Values.{sort_kind}
use Rattle.descriptors.specs.declared.names.Meaning.TheVariants as meaning
use Rattle.descriptors.specs.declared.names.Names.{Names}
use Rattle.expr_needs.specs.Needs.{IsOperand, ReadsName, UpdatesName}
use Rattle.operations.specs.Kinds.{IsBoolean}
use Rattle.operations.specs.Rows.{IsWithin, Surroundings}
use Rattle.tree_promises.specs.Made.{sem}
use Rattle.tree_promises.specs.Types.{IsTypedExpr}
use Rattle.type_model.specs.Calls.{Asked}
use Rattle.type_model.specs.Inclusion.{HasExactly}
use Rattle.type_model.specs.declared.answers.TypeLimit.{TypeLimit}
use Rattle.type_model.specs.declared.atoms.AtomDef.{AtomDef}
use Rattle.type_model.specs.declared.basic.SemType.{SemType}
use Rattle.typed_needs.specs.Pieces.{IsBefore, IsMet}
use Rattle.typed_needs.specs.Placing.{AreNamed, AreStored}
use Rattle.typed_stmts.specs.Adding.{AddsTyped}
use Rattle.typed_stmts.specs.Assigned.{HasSame, Sees, TakeValues, assigned_type}
use Rattle.typed_tree.specs.SharedTypes.{Shared, sem_of}
use Rattle.typed_tree.specs.declared.expr.TypedExpr.{TypedExpr}

-- the type that is read of what a name stands for that may be assigned
abbrev pub read_type : Seen → Option SemType
read_type (SeenVariable v) = Some (sem_of (shared_now v))
read_type (SeenMeaning (meaning.Variable number final t)) = Some t.sem
read_type (SeenMeaning (meaning.TypeName t)) = None
read_type (SeenMeaning (meaning.Constant t)) = None
read_type (SeenMeaning (meaning.Function f)) = None
read_type (SeenWorker w) = None
read_type (SeenConstant c) = None
read_type (SeenLibrary r) = None
read_type (SeenNothing code) = None

-- `+` works on ints or on strings, the others on ints
abbrev pub Suits : AssignOp → Bool → Type 0
Suits Set ints = ints ≡ true
Suits Add ints = ⊤
Suits Subtract ints = ints ≡ true
Suits Multiply ints = ints ≡ true
Suits Divide ints = ints ≡ true

module _ (passes : List AtomDef → Asked → TypeLimit → Type 0) (names : Names) (env : List AtomDef) where
  -- what was read is of the sort, and of the other operand just this sort is wanted
  pub record OperandWanted (assign : AssignOp) (read : Shared) (old new : State) : Type 0 where
    pub ints : Bool
    pub want : Shared
    pub suits : Suits assign ints
    pub all : new ≡ record old { sorts = old.sorts ++ ints ∷ []; wants = old.wants ++ Some want ∷ [] }
    pub read_so : IsWithin env (IsOfKind (sort_kind ints)) (sem_of read)
    pub exactly : HasExactly env (sem_of want) (IsOfKind (sort_kind ints))

  abbrev pub OperandIsWanted : Type 0
  OperandIsWanted =
      (assign : AssignOp) (at : Place) (old new : State) (read : Shared) → IsBefore env old → IsBefore env new → IsMet passes names env (IsOperand assign at) old new
      → IsLast old.wants (Some read) → OperandWanted assign read old new

  abbrev pub NameIsRead : Type 0
  NameIsRead =
      (q : QualifiedName) (old new : State) (seen : Seen) → IsMet passes names env (ReadsName q) old new → Sees names old q seen
      → (w : Shared) × (new ≡ record old { wants = old.wants ++ Some w ∷ [] }) × IsSomeAnd (read_type seen) (λ t. HasSame env t (sem_of w))

  -- what is read, the value, and what the operator gives
  pub record UpdateFits (assign : AssignOp) (ints : Bool) (read result : Shared) (e : TypedExpr) : Type 0 where
    pub suits : Suits assign ints
    pub read_so : IsWithin env (IsOfKind (sort_kind ints)) (sem_of read)
    pub value_so : IsWithin env (IsOfKind (sort_kind ints)) (sem e)
    pub exactly : HasExactly env (sem_of result) (IsOfKind (sort_kind ints))

  module _ (place : Surroundings) (inside : Bool) where
    -- three types are wanted: that of what is stored, that of what was read, and that of what the operator gives. `truth`: a type of the booleans
    abbrev pub NameUpdateIsTyped : Type 0
    NameUpdateIsTyped =
        (q : QualifiedName) (assign : AssignOp) (at : Place) (old new : State) (e : TypedExpr) (seen : Seen) (stored read result : Shared) (ints : Bool) (truth : SemType)
        → IsBefore env old → HasExactly env truth IsBoolean → IsMet passes names env (UpdatesName q assign at) old new
        → AreLast old.wants 3 (Some stored ∷ Some read ∷ Some result ∷ []) → IsLast old.sorts ints → UpdateFits assign ints read result e
        → IsLast old.found e → IsTypedExpr env place e → Sees names old q seen → IfSome (read_type seen) (λ t. HasSame env t (sem_of read))
        → IfSome (assigned_type seen) (λ t. HasSame env t (sem_of stored)) → AreStored place old → AreNamed env names place → TakeValues env names place
        → AddsTyped env place inside [] old new

    pub record UpdatesAreTyped : Type 0 where
      pub operands : OperandIsWanted
      pub names_read : NameIsRead
      pub names_updated : NameUpdateIsTyped

abbrev pub NameUpdatesAreTyped : (List AtomDef → Asked → TypeLimit → Type 0) → Type 0
NameUpdatesAreTyped passes = (names : Names) (env : List AtomDef) (place : Surroundings) (inside : Bool) → UpdatesAreTyped passes names env place inside
