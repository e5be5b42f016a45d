-- What waits are, as typed parts, where all their names are known.
use Rattle.std.specs.Prelude.{◌≡◌, ℕ, List, [], ◌∷◌, Option, Some, None, length, map, ⊤}
use Rattle.bal_base.specs.declared.place.Place.{Place}
use Rattle.bal_base.specs.declared.text.Text.{Text}
use Rattle.bal_tree.specs.declared.name.QualifiedName.{QualifiedName}
use Rattle.descriptors.specs.declared.names.Names.{Names}
use Rattle.operations.specs.Rows.{Surroundings}
use Rattle.type_model.specs.declared.answers.TypeLimit.{TypeLimit}
use Rattle.type_model.specs.declared.atoms.AtomDef.{AtomDef}
use Rattle.type_model.specs.Calls.{Asked}
use Rattle.typed_tree.specs.declared.expr.TypedExpr.{TypedExpr}
use Rattle.typed_tree.specs.SharedTypes.{Shared}
use Rattle.expr_needs.specs.Needs.{WaitsForAll, WaitsForAny}
use Rattle.check_words.specs.Actions.{awaited, futures}
use Rattle.check_words.specs.State.{AreLast, ConstructorAtWork, IsLast, State}
use Rattle.tree_promises.specs.Made.{AreTypedExprs}
use Rattle.typed_needs.specs.Items.{AreFirst}
use Rattle.typed_needs.specs.Pieces.{IsBefore, IsMet, MakesTyped}
use Rattle.typed_needs.specs.Waits.{FutureGives, WorkerGives}

module _ (env : List AtomDef) (place : Surroundings) where
  -- of each name the type has all that it gives: a worker by its number, and a future, which is the next part
  abbrev pub AllGive : List (Option ℕ) → List Shared → List TypedExpr → Type 0
  AllGive [] [] [] = ⊤
  AllGive (Some w ∷ names) (t ∷ ts) parts = WorkerGives env place w t × AllGive names ts parts
  AllGive (None ∷ names) (t ∷ ts) (e ∷ parts) = FutureGives env place e t × AllGive names ts parts
  AllGive [] [] (e ∷ parts) = ⊥
  AllGive [] (t ∷ ts) parts = ⊥
  AllGive (Some w ∷ names) [] parts = ⊥
  AllGive (None ∷ names) [] parts = ⊥
  AllGive (None ∷ names) (t ∷ ts) [] = ⊥

module _ (passes : List AtomDef → Asked → TypeLimit → Type 0) (names : Names) (env : List AtomDef) (place : Surroundings) where
  -- `wait a|b`, where a name is there at all
  abbrev pub AlternateWaitIsTyped : Type 0
  AlternateWaitIsTyped =
      (q : QualifiedName) (more : List QualifiedName) (at : Place) (old new : State) (ts : List Shared) (parts : List TypedExpr) → IsBefore env old → IsBefore env new
      → IsMet passes names env (WaitsForAny (q ∷ more) at) old new → AreLast old.wants (length (q ∷ more)) (map Some ts)
      → AreLast old.found (futures (awaited old.site (q ∷ more))) parts → AreTypedExprs env place parts → AllGive env place (awaited old.site (q ∷ more)) ts parts
      → MakesTyped passes names env place (futures (awaited old.site (q ∷ more))) old new

  -- `wait {a, b}`, where each name has a key
  abbrev pub MultipleWaitIsTyped : Type 0
  MultipleWaitIsTyped =
      (qs : List QualifiedName) (at : Place) (old new : State) (c : ConstructorAtWork) (keys : List Text) (ts : List Shared) (parts : List TypedExpr) → IsBefore env old
      → IsBefore env new → AreFirst env new.atoms → IsMet passes names env (WaitsForAll qs at) old new → IsLast old.constructors c → c.keys ≡ map Some keys
      → length keys ≡ length qs → AreLast old.wants (length qs) (map Some ts) → AreLast old.found (futures (awaited old.site qs)) parts → AreTypedExprs env place parts
      → AllGive env place (awaited old.site qs) ts parts → MakesTyped passes names env place (futures (awaited old.site qs)) old new

  pub record WholeWaitsAreTyped : Type 0 where
    pub alternate : AlternateWaitIsTyped
    pub multiple : MultipleWaitIsTyped

abbrev pub AllWholeWaitsAreTyped : (List AtomDef → Asked → TypeLimit → Type 0) → Type 0
AllWholeWaitsAreTyped passes = (names : Names) (env : List AtomDef) (place : Surroundings) → WholeWaitsAreTyped passes names env place
