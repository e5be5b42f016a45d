-- What came of a row, as it is tried.
use Rattle.std.proofs.Common.{◌≡◌, ℕ, List, Option, Some, None, IsSomeAnd, refl, subst}
use Rattle.std.specs.Prelude.{slice_get}
use Rattle.bal_base.specs.declared.text.Text.{Text}
use Rattle.value_model.specs.declared.value.Value.{Value}
use Rattle.value_model.specs.Heap.{Entries, Items, Members, Structure}
use Rattle.value_model.specs.World as model
use Rattle.op_model.specs.ProgramFacts.{own_types}
use Rattle.op_model.specs.Rows.{HasEntries, HasItems, ListAt, StructureAt}
use Rattle.op_model.specs.Stores.{StoresAt}
use Rattle.plain_run.specs.declared.facts.ProgramFacts.{ProgramFacts}
use Rattle.plain_run.specs.declared.held.World.{World}
use Rattle.plain_run.specs.declared.world.Came.{Came}
use Rattle.plain_run.specs.Came.{came_of}
use Rattle.plain_run.specs.ProgramFacts.{facts_of}
use Rattle.plain_run.specs.Held.{world_of}
use Rattle.plain_structures.specs.declared.answer.Tried.{Tried}
use Rattle.plain_structures.specs.declared.answer.Tried.TheVariants as tries
use Rattle.plain_structures.specs.Rows.{IsRowOf, IsTried}
use Rattle.plain_stores.specs.Changes.{tried_of}
use Rattle.store_tests.specs.Questions.{StoreIsBeyond}

-- what comes where all tests are passed is what the row says, and something comes of what the row speaks of
pub tried-row : (row comes : model.Came → Type 0) (cause : Type 0) (w : World) (o : Option Came) → ((came : model.Came) → comes came → row came) → ((came : model.Came) → row came → (other : model.Came) × comes other) → IsRowOf comes w o → IsTried row cause w (tried_of o)
tried-row row comes cause w (Some came) f g h = f (came_of came w) h
tried-row row comes cause w None f g h = λ came r. let other = g came r in h other.0 other.1

module _ (w : model.World) (n : ℕ) where
  pub list-other : (P : Structure → List Value → Type 0) (F : Structure → List Value → model.Came) → StructureAt w n (λ s. HasItems (P s) s.members) → (other : model.Came) × StructureAt w n (λ s. HasItems (λ vs. other ≡ F s vs) s.members)
  list-other P F h = by (slice_get w.heap.structures n) h
    where
      inside : (s : Structure) (x : Members) → HasItems (P s) x → (other : model.Came) × HasItems (λ vs. other ≡ F s vs) x
      inside s (Items vs) h = (F s vs, refl)
      inside s (Entries es) h = absurd h

      by : (o : Option Structure) → IsSomeAnd o (λ s. HasItems (P s) s.members) → (other : model.Came) × IsSomeAnd o (λ s. HasItems (λ vs. other ≡ F s vs) s.members)
      by (Some s) h = inside s s.members h
      by None h = absurd h

  pub mapping-other : (P : Structure → List (Text × Value) → Type 0) (F : Structure → List (Text × Value) → model.Came) → StructureAt w n (λ s. HasEntries (P s) s.members) → (other : model.Came) × StructureAt w n (λ s. HasEntries (λ es. other ≡ F s es) s.members)
  mapping-other P F h = by (slice_get w.heap.structures n) h
    where
      inside : (s : Structure) (x : Members) → HasEntries (P s) x → (other : model.Came) × HasEntries (λ es. other ≡ F s es) x
      inside s (Items vs) h = absurd h
      inside s (Entries es) h = (F s es, refl)

      by : (o : Option Structure) → IsSomeAnd o (λ s. HasEntries (P s) s.members) → (other : model.Came) × IsSomeAnd o (λ s. HasEntries (λ es. other ≡ F s es) s.members)
      by (Some s) h = inside s s.members h
      by None h = absurd h

-- with another cause
pub tried-cause : (row : model.Came → Type 0) (C D : Type 0) (w : World) (t : Tried) → (C → D) → IsTried row C w t → IsTried row D w t
tried-cause row C D w (tries.Came came) f h = h
tried-cause row C D w tries.Stuck f h = h
tried-cause row C D w tries.Undecided f h = f h

-- at another place that is the same
pub tried-place : (facts : ProgramFacts) (w new : World) (n : ℕ) (v : Value) (p q : Option ℕ) (t : Tried) → p ≡ q → IsTried (λ came. ListAt (world_of w) n (λ s vs. StoresAt (own_types (facts_of facts)) (facts_of facts).fillers (world_of w) n s vs p v came)) (StoreIsBeyond facts w n p v) new t → IsTried (λ came. ListAt (world_of w) n (λ s vs. StoresAt (own_types (facts_of facts)) (facts_of facts).fillers (world_of w) n s vs q v came)) (StoreIsBeyond facts w n q v) new t
tried-place facts w new n v p q t e h =
    subst (λ o. IsTried (λ came. ListAt (world_of w) n (λ s vs. StoresAt (own_types (facts_of facts)) (facts_of facts).fillers (world_of w) n s vs o v came)) (StoreIsBeyond facts w n o v) new t) e h
