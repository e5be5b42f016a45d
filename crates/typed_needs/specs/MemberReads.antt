-- What reads of members are, as typed parts.
use Rattle.std.specs.Prelude.{List, [], ◌∷◌}
use Rattle.bal_base.specs.declared.place.Place.{Place}
use Rattle.bal_tree.specs.declared.name.Word.{Word}
use Rattle.descriptors.specs.declared.names.Names.{Names}
use Rattle.type_model.specs.declared.answers.TypeLimit.{TypeLimit}
use Rattle.type_model.specs.declared.atoms.AtomDef.{AtomDef}
use Rattle.type_model.specs.Calls.{Asked}
use Rattle.operations.specs.Rows.{Surroundings}
use Rattle.typed_tree.specs.declared.expr.TypedExpr.{TypedExpr}
use Rattle.expr_needs.specs.declared.kind.Kind.TheVariants as kind
use Rattle.expr_needs.specs.Needs.{ReadsElement, ReadsField, ReadsOptional}
use Rattle.check_words.specs.declared.access.Access.{Access}
use Rattle.check_words.specs.Members.{container_kind, index_kind}
use Rattle.check_words.specs.State.{AreLast, IsLast, State}
use Rattle.tree_promises.specs.Types.{IsTypedExpr}
use Rattle.typed_needs.specs.Asked.{IsOfIt}
use Rattle.typed_needs.specs.Pieces.{IsBefore, IsMet, MakesTyped}

module _ (passes : List AtomDef → Asked → TypeLimit → Type 0) (names : Names) (env : List AtomDef) (place : Surroundings) where
  -- `a[i]`, of what was chosen by a
  abbrev pub ElementIsTyped : Type 0
  ElementIsTyped =
      (at : Place) (old new : State) (a i : TypedExpr) (access : Access) → IsBefore env old → IsBefore env new → IsMet passes names env (ReadsElement at) old new
      → IsLast old.accesses access → AreLast old.found 2 (a ∷ i ∷ []) → IsTypedExpr env place a → IsTypedExpr env place i
      → IsOfIt passes names env (container_kind access) a → IsOfIt passes names env (index_kind access) i → MakesTyped passes names env place 2 old new

  -- `a.f`, and `a?.f`
  abbrev pub FieldIsTyped : Type 0
  FieldIsTyped =
      (w : Word) (at : Place) (old new : State) (a : TypedExpr) → IsBefore env old → IsBefore env new → IsMet passes names env (ReadsField w at) old new
      → IsLast old.found a → IsTypedExpr env place a → MakesTyped passes names env place 1 old new

  abbrev pub OptionalIsTyped : Type 0
  OptionalIsTyped =
      (w : Word) (at : Place) (old new : State) (a : TypedExpr) → IsBefore env old → IsBefore env new → IsMet passes names env (ReadsOptional w at) old new
      → IsLast old.found a → IsTypedExpr env place a → IsOfIt passes names env kind.MappingOrNil a → MakesTyped passes names env place 1 old new

  pub record ReadsAreTyped : Type 0 where
    pub elements : ElementIsTyped
    pub fields : FieldIsTyped
    pub optional : OptionalIsTyped

abbrev pub AllReadsAreTyped : (List AtomDef → Asked → TypeLimit → Type 0) → Type 0
AllReadsAreTyped passes = (names : Names) (env : List AtomDef) (place : Surroundings) → ReadsAreTyped passes names env place
