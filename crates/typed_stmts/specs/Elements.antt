-- Assignments with an operator to members, as typed statements.
use Rattle.std.specs.Prelude.{⊤, Bool, List, Some, [], ◌++◌, ◌∷◌, ◌≡◌, ◌⊎◌, false}
use Rattle.bal_base.specs.Valid.{IsValid}
use Rattle.bal_base.specs.declared.place.Place.{Place}
use Rattle.bal_base.specs.declared.shape.Shape.{Shape}
use Rattle.bal_base.specs.declared.text.Text.{Text}
use Rattle.bal_tree.specs.declared.name.Word.{Word}
use Rattle.bal_tree.specs.declared.stmt.AssignOp.{AssignOp}
use Rattle.check_words.specs.Members.{container_kind, index_kind}
use Rattle.check_words.specs.State.{AreLast, IsLast, State}
use Rattle.check_words.specs.declared.access.Access.TheVariants.{Char, Item, Key}
use Rattle.check_words.specs.declared.access.Access.{Access}
use Rattle.descriptors.specs.declared.names.Names.{Names}
use Rattle.expr_needs.specs.Needs.{IsAccessed, Need, ReadsStored, ReadsStoredField, UpdatesElement, UpdatesField}
use Rattle.operations.specs.Kinds.{HasMember, IsBoolean, IsNil, IsString}
use Rattle.operations.specs.Rows.{IsWithin, StandsAtIndex, StandsAtKey, Surroundings}
use Rattle.tree_promises.specs.Made.{AreTypedExprs, sem}
use Rattle.type_model.specs.Calls.{Asked}
use Rattle.type_model.specs.Inclusion.{HasExactly}
use Rattle.type_model.specs.Membership.{In}
use Rattle.type_model.specs.Parts.{StandsAt}
use Rattle.type_model.specs.declared.answers.Keys.TheVariants.{Field}
use Rattle.type_model.specs.declared.answers.TypeLimit.{TypeLimit}
use Rattle.type_model.specs.declared.atoms.AtomDef.{AtomDef}
use Rattle.type_model.specs.declared.basic.SemType.{SemType}
use Rattle.typed_needs.specs.Asked.{IsOfIt}
use Rattle.typed_needs.specs.Pieces.{IsBefore, IsMet}
use Rattle.typed_needs.specs.Placing.{IsPlaced}
use Rattle.typed_stmts.specs.Adding.{AddsTyped}
use Rattle.typed_stmts.specs.Stored.{AllMayStand}
use Rattle.typed_stmts.specs.Updated.{UpdateFits}
use Rattle.typed_tree.specs.SharedTypes.{Shared, sem_of}
use Rattle.typed_tree.specs.declared.expr.TypedExpr.{TypedExpr}

-- what has members that can be set: a list or a mapping, and no string
abbrev pub IsStructure : Access → Type 0
IsStructure Char = ⊥
IsStructure Item = ⊤
IsStructure Key = ⊤

module _ (passes : List AtomDef → Asked → TypeLimit → Type 0) (names : Names) (env : List AtomDef) where
  -- what is stored to is no string
  abbrev pub StructureIsChosen : Type 0
  StructureIsChosen =
      (at : Place) (old new : State) (e : TypedExpr) → IsBefore env old → IsMet passes names env (IsAccessed false at) old new → IsLast old.found e
      → (a : Access) × (new ≡ record old { accesses = old.accesses ++ a ∷ [] }) × IsOfIt passes names env (container_kind a) e × IsStructure a

  -- ---- what is read before

  -- the type has all that stands in the first part at what the second one names, and nil where a key may name no member
  abbrev pub HasAllThere : Access → TypedExpr → TypedExpr → SemType → Type 0
  HasAllThere Char a i t = (x : Shape) → IsValid x → IsString x → In env x t
  HasAllThere Item a i t = (x : Shape) → IsValid x → StandsAtIndex env (sem a) (sem i) x → In env x t
  HasAllThere Key a i t = (x : Shape) → IsValid x → StandsAtKey env (sem a) (sem i) x ⊎ IsNil x → In env x t

  abbrev pub MemberIsRead : Type 0
  MemberIsRead =
      (at : Place) (old new : State) (a i : TypedExpr) (access : Access) → IsBefore env old → IsBefore env new → IsMet passes names env (ReadsStored at) old new
      → AreLast old.found 2 (a ∷ i ∷ []) → IsLast old.accesses access
      → (w : Shared) × (new ≡ record old { wants = old.wants ++ Some w ∷ [] }) × HasAllThere access a i (sem_of w)

  -- each mapping of the part has the field, and the type has all that stands there
  pub record ReadsField (name : Text) (a : TypedExpr) (t : SemType) : Type 0 where
    pub has : IsWithin env (HasMember name) (sem a)
    pub all : (x : Shape) → IsValid x → StandsAt env (sem a) (Field name) x → In env x t

  -- to ask it the mappings that have the field are an atom more
  abbrev pub FieldIsRead : Type 0
  FieldIsRead =
      (w : Word) (at : Place) (old new : State) (a i : TypedExpr) → IsBefore env old → IsBefore env new → IsMet passes names env (ReadsStoredField w at) old new
      → AreLast old.found 2 (a ∷ i ∷ [])
      → (t : Shared) × (new ≡ record old { atoms = new.atoms; wants = old.wants ++ Some t ∷ [] }) × ReadsField w.name a (sem_of t)

  -- ---- the statement

  module _ (place : Surroundings) (inside : Bool) where
    -- A container, a key and a value are the last parts, and three types are wanted: that of what is stored, that of what was read, and that of what the operator gives. The
    -- container and the key are kept in slots of the construct's own. `HasRead`: what is known of the type of what was read. `truth`: a type of the booleans.
    abbrev pub MemberUpdateIsTyped : Need → (Access → TypedExpr → TypedExpr → SemType → Type 0) → AssignOp → Type 0
    MemberUpdateIsTyped need HasRead assign =
        (old new : State) (a i e : TypedExpr) (access : Access) (stored read result : Shared) (ints : Bool) (truth : SemType)
        → IsBefore env old → HasExactly env truth IsBoolean → IsMet passes names env need old new
        → AreLast old.wants 3 (Some stored ∷ Some read ∷ Some result ∷ []) → IsLast old.sorts ints → UpdateFits passes names env assign ints read result e
        → IsLast old.accesses access → IsStructure access → AreLast old.found 3 (a ∷ i ∷ e ∷ []) → AreTypedExprs env place (a ∷ i ∷ e ∷ [])
        → IsOfIt passes names env (container_kind access) a → IsOfIt passes names env (index_kind access) i → HasRead access a i (sem_of read)
        → AllMayStand passes names env access a i (sem_of stored) → IsPlaced place new → AddsTyped env place inside [] old new

    -- `a[i] += e`
    abbrev pub ElementUpdateIsTyped : Type 0
    ElementUpdateIsTyped = (assign : AssignOp) (at : Place) → MemberUpdateIsTyped (UpdatesElement assign at) HasAllThere assign

    -- `a.f += e`, where a is a mapping
    abbrev pub FieldUpdateIsTyped : Type 0
    FieldUpdateIsTyped =
        (w : Word) (assign : AssignOp) (at : Place) → MemberUpdateIsTyped (UpdatesField w assign at) (λ access a i t. (access ≡ Key) × ReadsField w.name a t) assign

    pub record ElementsAreTyped : Type 0 where
      pub chosen : StructureIsChosen
      pub members_read : MemberIsRead
      pub fields_read : FieldIsRead
      pub elements : ElementUpdateIsTyped
      pub fields : FieldUpdateIsTyped

abbrev pub ElementUpdatesAreTyped : (List AtomDef → Asked → TypeLimit → Type 0) → Type 0
ElementUpdatesAreTyped passes = (names : Names) (env : List AtomDef) (place : Surroundings) (inside : Bool) → ElementsAreTyped passes names env place inside
