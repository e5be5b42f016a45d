-- Stores to members, as typed statements.
use Rattle.std.specs.Prelude.{⊤, Bool, List, Some, [], ◌++◌, ◌∷◌, ◌≡◌}
use Rattle.bal_base.specs.Valid.{IsValid}
use Rattle.bal_base.specs.declared.place.Place.{Place}
use Rattle.bal_base.specs.declared.shape.Shape.{Shape}
use Rattle.bal_tree.specs.declared.name.Word.{Word}
use Rattle.check_words.specs.Members.{container_kind, index_kind}
use Rattle.check_words.specs.State.{AreLast, IsLast, State}
use Rattle.check_words.specs.declared.access.Access.TheVariants.{Char, Item, Key}
use Rattle.check_words.specs.declared.access.Access.{Access}
use Rattle.descriptors.specs.declared.names.Names.{Names}
use Rattle.expr_needs.specs.Needs.{ExpectsStored, HasField, Stores}
use Rattle.expr_needs.specs.declared.kind.Kind.TheVariants as kind
use Rattle.operations.specs.Rows.{StandsAtIndex, StandsAtKey, Surroundings}
use Rattle.tree_promises.specs.Made.{AreTypedExprs, sem}
use Rattle.tree_promises.specs.Types.{IsTypedExpr}
use Rattle.type_model.specs.Calls.{Asked}
use Rattle.type_model.specs.Membership.{In}
use Rattle.type_model.specs.declared.answers.TypeLimit.{TypeLimit}
use Rattle.type_model.specs.declared.atoms.AtomDef.{AtomDef}
use Rattle.type_model.specs.declared.basic.SemType.{SemType}
use Rattle.typed_needs.specs.Asked.{IsOfIt}
use Rattle.typed_needs.specs.Pieces.{IsBefore, IsMet}
use Rattle.typed_stmts.specs.Adding.{AddsTyped}
use Rattle.typed_tree.specs.SharedTypes.{Shared, sem_of}
use Rattle.typed_tree.specs.declared.expr.TypedExpr.{TypedExpr}

module _ (passes : List AtomDef → Asked → TypeLimit → Type 0) (names : Names) (env : List AtomDef) where
  -- what may stand in the first at what the second names; in a string nothing is stored
  abbrev pub MayStandThere : Access → TypedExpr → TypedExpr → Shape → Type 0
  MayStandThere Char a i x = ⊤
  MayStandThere Item a i x = StandsAtIndex env (sem a) (sem i) x
  MayStandThere Key a i x = StandsAtKey env (sem a) (sem i) x

  -- all of the type may
  abbrev pub AllMayStand : Access → TypedExpr → TypedExpr → SemType → Type 0
  AllMayStand access a i t = (x : Shape) → IsValid x → In env x t → MayStandThere access a i x

  abbrev pub StoredIsExpected : Type 0
  StoredIsExpected =
      (at : Place) (old new : State) (a i : TypedExpr) (access : Access) → IsBefore env old → IsBefore env new → IsMet passes names env (ExpectsStored at) old new
      → AreLast old.found 2 (a ∷ i ∷ []) → IsLast old.accesses access
      → (w : Shared) × (new ≡ record old { wants = old.wants ++ Some w ∷ [] }) × AllMayStand access a i (sem_of w)

  module _ (place : Surroundings) where
    -- the name of a field is a key
    pub record FieldNamed (old new : State) : Type 0 where
      pub part : TypedExpr
      pub found : new.found ≡ old.found ++ part ∷ []
      pub accesses : new.accesses ≡ old.accesses ++ Key ∷ []
      pub typed : IsTypedExpr env place part
      pub text : IsOfIt passes names env kind.Text part

    abbrev pub FieldIsNamed : Type 0
    FieldIsNamed = (w : Word) (old new : State) → IsBefore env new → IsMet passes names env (HasField w) old new → FieldNamed old new

    -- a container, an index or a key, and a value that may stand there
    abbrev pub StoreIsTyped : Bool → Type 0
    StoreIsTyped inside =
        (at : Place) (old new : State) (a i e : TypedExpr) (access : Access) → IsMet passes names env (Stores at) old new → IsLast old.accesses access
        → AreLast old.found 3 (a ∷ i ∷ e ∷ []) → AreTypedExprs env place (a ∷ i ∷ e ∷ []) → IsOfIt passes names env (container_kind access) a
        → IsOfIt passes names env (index_kind access) i → AllMayStand access a i (sem e) → AddsTyped env place inside [] old new

    pub record StoresAreTyped : Type 0 where
      pub fields : FieldIsNamed
      pub expected : StoredIsExpected
      pub stores : (inside : Bool) → StoreIsTyped inside

abbrev pub AllStoresAreTyped : (List AtomDef → Asked → TypeLimit → Type 0) → Type 0
AllStoresAreTyped passes = (names : Names) (env : List AtomDef) (place : Surroundings) → StoresAreTyped passes names env place
