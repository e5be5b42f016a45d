-- What list constructors are, as typed parts, item by item.
use Rattle.std.specs.Prelude.{◌≡◌, ◌≤◌, ◌++◌, ℕ, List, [], ◌∷◌, All, IsSomeAnd, Option, Some, None, length, map}
use Rattle.std.specs.List.{AllZip}
use Rattle.bal_base.specs.declared.place.Place.{Place}
use Rattle.bal_base.specs.declared.shape.Shape.{Shape}
use Rattle.bal_tree.specs.declared.name.Literal.{Literal}
use Rattle.descriptors.specs.declared.names.Names.{Names}
use Rattle.operations.specs.Rows.{Surroundings}
use Rattle.operations.specs.Structures.{IsListAtom, ItemsFit, MayStandIn}
use Rattle.type_model.specs.declared.answers.TypeLimit.{TypeLimit}
use Rattle.type_model.specs.declared.atoms.AtomDef.{AtomDef}
use Rattle.type_model.specs.declared.basic.Ty.{Ty}
use Rattle.type_model.specs.Calls.{Asked}
use Rattle.type_model.specs.Inclusion.{Sub}
use Rattle.type_model.specs.Membership.{In}
use Rattle.type_model.specs.Places.{item_type}
use Rattle.typed_tree.specs.declared.expr.TypedExpr.{TypedExpr}
use Rattle.typed_tree.specs.SharedTypes.{Shared, sem_of}
use Rattle.expr_needs.specs.declared.expected.Expected.{Expected}
use Rattle.expr_needs.specs.Needs.{ChoosesList, ExpectsItem, IsItem, MakesList}
use Rattle.check_words.specs.State.{AreLast, ConstructorAtWork, IsLast, State, replaced, all_but}
use Rattle.tree_promises.specs.Made.{AreTypedExprs, sem}
use Rattle.typed_needs.specs.Pieces.{IsBefore, IsMet, MakesTyped}

-- these atoms are the first ones of those that there are at the end
abbrev pub AreFirst : List AtomDef → List AtomDef → Type 0
AreFirst env atoms = (more : List AtomDef) × (env ≡ atoms ++ more)

module _ (env : List AtomDef) where
  -- each item is below the type that it adds where nothing is chosen, and else below the type of its place, in a list of so many
  abbrev pub ItemsChosen : Option ℕ → List Ty → ℕ → List TypedExpr → Type 0
  ItemsChosen None types count items = AllZip (λ e t. Sub env (sem e) t.sem) items types
  ItemsChosen (Some atom) types count items =
      IsListAtom env atom (λ fixed rest. (length fixed ≤ count) × ItemsFit env (map sem items) 0 fixed rest)

  -- a list constructor at work, whose items so far are these, of so many
  pub record HoldsItems (c : ConstructorAtWork) (count : ℕ) (items : List TypedExpr) : Type 0 where
    pub many : length c.types ≡ length items
    pub fit : ItemsChosen c.choice c.types count items
    pub frozen : All (λ e. MayStandIn env c.immutable (sem e)) items

  -- a type with no more shapes is wanted
  abbrev pub WantsWithin : Option Shared → Ty → Type 0
  WantsWithin w t = (u : Shared) × (w ≡ Some u) × ((x : Shape) → In env x (sem_of u) → In env x t.sem)

  -- of the next item what the place asks is wanted, where something was chosen
  abbrev pub AwaitsItem : Option ℕ → ℕ → Option Shared → Type 0
  AwaitsItem None k w = w ≡ None
  AwaitsItem (Some atom) k w = IsListAtom env atom (λ fixed rest. IsSomeAnd (item_type fixed rest k) (WantsWithin w))

module _ (passes : List AtomDef → Asked → TypeLimit → Type 0) (names : Names) (env : List AtomDef) (place : Surroundings) where
  abbrev pub ListIsChosen : Type 0
  ListIsChosen =
      (e : Expected) (items : List (Option Literal)) (at : Place) (old new : State) → AreFirst env old.atoms → IsMet passes names env (ChoosesList e items at) old new
      → (c : ConstructorAtWork) × (new ≡ record old { constructors = old.constructors ++ c ∷ [] }) × HoldsItems env c (length items) []

  abbrev pub ItemIsExpected : Type 0
  ItemIsExpected =
      (old new : State) (c : ConstructorAtWork) → AreFirst env old.atoms → IsMet passes names env ExpectsItem old new → IsLast old.constructors c
      → (w : Option Shared) × (new ≡ record old { wants = old.wants ++ w ∷ [] }) × AwaitsItem env c.choice (length c.types) w

  -- what is known of the constructor behind an item
  pub record TakesItem (old new : State) (count : ℕ) (items : List TypedExpr) : Type 0 where
    pub now : ConstructorAtWork
    pub constructors : new.constructors ≡ replaced old.constructors now
    pub wants : new.wants ≡ all_but 1 old.wants
    pub found : new.found ≡ old.found
    pub holds : HoldsItems env now count items

  abbrev pub ItemIsTaken : Type 0
  ItemIsTaken =
      (at : Place) (old new : State) (c : ConstructorAtWork) (e : TypedExpr) (w : Option Shared) (count : ℕ) (items : List TypedExpr)
      → IsBefore env old → IsBefore env new → IsMet passes names env (IsItem at) old new → IsLast old.constructors c → IsLast old.found e → IsLast old.wants w
      → AwaitsItem env c.choice (length c.types) w → HoldsItems env c count items → TakesItem old new count (items ++ e ∷ [])

  abbrev pub ListIsTyped : Type 0
  ListIsTyped =
      (at : Place) (old new : State) (c : ConstructorAtWork) (count : ℕ) (items : List TypedExpr) → IsBefore env old → IsBefore env new → AreFirst env new.atoms
      → IsMet passes names env (MakesList count at) old new → IsLast old.constructors c → AreLast old.found count items → AreTypedExprs env place items
      → HoldsItems env c count items → MakesTyped passes names env place count old new

  pub record ListsAreTyped : Type 0 where
    pub chosen : ListIsChosen
    pub expected : ItemIsExpected
    pub taken : ItemIsTaken
    pub made : ListIsTyped

abbrev pub AllListsAreTyped : (List AtomDef → Asked → TypeLimit → Type 0) → Type 0
AllListsAreTyped passes = (names : Names) (env : List AtomDef) (place : Surroundings) → ListsAreTyped passes names env place
