-- Variables that are seen stay in slots of their declared types, need by need, for needs of statements that enter and leave no way.
use Rattle.std.specs.Prelude.{Bool, List, ℕ}
use Rattle.bal_base.specs.declared.place.Place.{Place}
use Rattle.bal_base.specs.declared.text.Name.{Name}
use Rattle.bal_tree.specs.declared.name.QualifiedName.{QualifiedName}
use Rattle.bal_tree.specs.declared.name.Word.{Word}
use Rattle.calm_needs.specs.Calm.{IsStoredAt}
use Rattle.check_words.specs.State.{State}
use Rattle.descriptors.specs.declared.names.Names.{Names}
use Rattle.expr_needs.specs.Needs.{Assigns, BeginsBlock, Breaks, Continues, Declares, EndsBlock, HasItem, Heads, MakesBlock, Need, Performs, Returns, Stops}
use Rattle.operations.specs.Rows.{Surroundings}
use Rattle.type_model.specs.Calls.{Asked}
use Rattle.type_model.specs.declared.answers.TypeLimit.{TypeLimit}
use Rattle.type_model.specs.declared.atoms.AtomDef.{AtomDef}
use Rattle.typed_needs.specs.Pieces.{IsMet}
use Rattle.typed_needs.specs.Placing.{IsPlaced}
use Rattle.typed_tree.specs.declared.stmt.PerformForm.{PerformForm}

module _ (passes : List AtomDef → Asked → TypeLimit → Type 0) (names : Names) (env : List AtomDef) (place : Surroundings) where
  abbrev pub Keeps : Need → Type 0
  Keeps need = (old new : State) → IsMet passes names env need old new → IsStoredAt place old → IsStoredAt place new

  -- a variable more, in a slot of its own
  abbrev pub KeepsPlaced : Need → Type 0
  KeepsPlaced need = (old new : State) → IsMet passes names env need old new → IsPlaced place new → IsStoredAt place old → IsStoredAt place new

  pub record StmtsKeepStored : Type 0 where
    pub declares : (name : Name) (final assigned : Bool) (at : Place) → KeepsPlaced (Declares name final assigned at)
    pub items : (name : Name) (assigned : Bool) → KeepsPlaced (HasItem name assigned)
    pub assigns : (q : QualifiedName) (at : Place) → Keeps (Assigns q at)
    pub begins : Keeps BeginsBlock
    pub ends : Keeps EndsBlock
    pub blocks : (at : Place) → Keeps (MakesBlock at)
    pub heads : (words : List Word) → Keeps (Heads words)
    pub stops : Keeps Stops
    pub returns : (at : Place) → Keeps (Returns at)
    pub breaks : (at : Place) → Keeps (Breaks at)
    pub continues : (at : Place) → Keeps (Continues at)
    pub performs : (form : PerformForm) (count : ℕ) (at : Place) → Keeps (Performs form count at)

abbrev pub StoredStays : (List AtomDef → Asked → TypeLimit → Type 0) → Type 0
StoredStays passes = (names : Names) (env : List AtomDef) (place : Surroundings) → StmtsKeepStored passes names env place
