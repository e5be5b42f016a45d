-- What needs ask of the last part beside a kind or what is wanted: the sort that an operator works on, and what a member is taken of.
-- Where a need only asks, nothing changes.
use Rattle.std.specs.Prelude.{◌≡◌, ◌++◌, Bool, List, [], ◌∷◌}
use Rattle.bal_base.specs.declared.place.Place.{Place}
use Rattle.descriptors.specs.declared.names.Names.{Names}
use Rattle.type_model.specs.declared.answers.TypeLimit.{TypeLimit}
use Rattle.type_model.specs.declared.atoms.AtomDef.{AtomDef}
use Rattle.type_model.specs.Calls.{Asked}
use Rattle.operations.specs.Rows.{IsWithin}
use Rattle.typed_tree.specs.declared.expr.TypedExpr.{TypedExpr}
use Rattle.expr_needs.specs.declared.kind.Kind.{Kind}
use Rattle.expr_needs.specs.Needs.{Decides, IsAccessed, IsIndex, IsOf, IsSort, IsWanted}
use Rattle.check_words.specs.declared.access.Access.{Access}
use Rattle.check_words.specs.Kinds.{IsOfKind}
use Rattle.check_words.specs.Members.{container_kind, index_kind}
use Rattle.check_words.specs.State.{IsLast, State}
use Rattle.check_words.specs.Values.{sort_kind}
use Rattle.tree_promises.specs.Made.{sem}
use Rattle.typed_needs.specs.Pieces.{IsBefore, IsMet}

module _ (passes : List AtomDef → Asked → TypeLimit → Type 0) (names : Names) (env : List AtomDef) where
  abbrev pub IsOfIt : Kind → TypedExpr → Type 0
  IsOfIt kind e = IsWithin env (IsOfKind kind) (sem e)

  -- ---- operators

  -- ints or strings, by what the last part is
  abbrev pub SortIsDecided : Type 0
  SortIsDecided =
      (at : Place) (old new : State) (e : TypedExpr) → IsBefore env old → IsMet passes names env (Decides at) old new → IsLast old.found e
      → (ints : Bool) × (new ≡ record old { sorts = old.sorts ++ ints ∷ [] }) × IsOfIt (sort_kind ints) e

  abbrev pub SortIsAsked : Type 0
  SortIsAsked =
      (at : Place) (old new : State) (e : TypedExpr) (ints : Bool) → IsBefore env old → IsMet passes names env (IsSort at) old new → IsLast old.sorts ints
      → IsLast old.found e → IsOfIt (sort_kind ints) e × (new ≡ old)

  -- ---- members

  -- a string, a list or a mapping, by what the last part is
  abbrev pub AccessIsChosen : Type 0
  AccessIsChosen =
      (texts : Bool) (at : Place) (old new : State) (e : TypedExpr) → IsBefore env old → IsMet passes names env (IsAccessed texts at) old new → IsLast old.found e
      → (a : Access) × (new ≡ record old { accesses = old.accesses ++ a ∷ [] }) × IsOfIt (container_kind a) e

  abbrev pub IndexIsAsked : Type 0
  IndexIsAsked =
      (at : Place) (old new : State) (e : TypedExpr) (a : Access) → IsBefore env old → IsMet passes names env (IsIndex at) old new → IsLast old.accesses a
      → IsLast old.found e → IsOfIt (index_kind a) e × (new ≡ old)

  -- ---- what only asks

  abbrev pub KindOnlyAsks : Type 0
  KindOnlyAsks = (kind : Kind) (at : Place) (old new : State) → IsMet passes names env (IsOf kind at) old new → new ≡ old

  abbrev pub WantOnlyAsks : Type 0
  WantOnlyAsks = (at : Place) (old new : State) → IsMet passes names env (IsWanted at) old new → new ≡ old

  pub record AllIsAsked : Type 0 where
    pub sorts : SortIsDecided
    pub of_sorts : SortIsAsked
    pub accesses : AccessIsChosen
    pub indexes : IndexIsAsked
    pub kinds : KindOnlyAsks
    pub wants : WantOnlyAsks

abbrev pub NeedsAskOfParts : (List AtomDef → Asked → TypeLimit → Type 0) → Type 0
NeedsAskOfParts passes = (names : Names) (env : List AtomDef) → AllIsAsked passes names env
