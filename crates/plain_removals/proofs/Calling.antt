-- What was done is what the calls come to.
use Rattle.std.proofs.Common.{◌≡◌, ◌<◌, ℕ, ℤ, List, [], ◌∷◌, Option, Some, None, IsSomeAnd, length, map, refl, sym, subst}
use Rattle.std.specs.Prelude.{option_and_then, slice_get}
use Rattle.std.proofs.lemmas.List.{length-map}
use Rattle.std.proofs.lemmas.Option.{none-some, slice_get_within}
use Rattle.bal_base.specs.declared.text.Text.{Text}
use Rattle.operations.specs.declared.library.LibraryCall.TheVariants as call
use Rattle.value_model.specs.declared.value.Value.{Value}
use Rattle.value_model.specs.declared.value.Value.TheVariants.{Int, Str, Struct}
use Rattle.value_model.specs.Heap.{Structure as ModelStructure, Members, Items, Entries, entry_at}
use Rattle.value_model.specs.Stands.{OwnTypes}
use Rattle.value_model.specs.World as model
use Rattle.op_model.specs.ProgramFacts.{own_types}
use Rattle.op_model.specs.Library.{LibraryComes, RemovesAt, RemovesKey}
use Rattle.op_model.specs.Rows.{HasEntries, HasItems, ListAt, MappingAt}
use Rattle.plain_run.specs.declared.facts.ProgramFacts.{ProgramFacts}
use Rattle.plain_run.specs.declared.held.Structure.{Structure}
use Rattle.plain_run.specs.declared.held.World.{World}
use Rattle.plain_run.specs.Came.{came_of}
use Rattle.plain_run.specs.ProgramFacts.{facts_of}
use Rattle.plain_run.specs.Held.{structure_of, world_of}
use Rattle.plain_structures.specs.declared.answer.Tried.{Tried}
use Rattle.plain_structures.specs.declared.answer.Tried.TheVariants.{Came, Stuck, Undecided}
use Rattle.plain_structures.specs.Rows.{IsCalledBy, IsTried}
use Rattle.plain_structures.specs.Lookups.{entries_at, entries_in, items_at, items_in}
use Rattle.plain_removals.specs.declared.place.Place.{Place}
use Rattle.plain_removals.specs.declared.place.Place.TheVariants.{Last, At}
use Rattle.plain_removals.specs.declared.removal.Removal.{Removal}
use Rattle.plain_removals.specs.declared.removal.Removal.TheVariants as removals
use Rattle.plain_removals.specs.Removals.{IsDone, IsEntryBeyond, IsItemBeyond, IsItemRemoval, IsKeyBeyond, IsKeyRemoval, IsListRemoval, IsMappingRemoval, IsPlaceBeyond, IsPopBeyond, IsRemoval, IsRemoveItemBeyond, IsRemoveKeyBeyond, RemovesEntry, RemovesItem, place_in}

-- ---- a structure that stands there

pub stands-within : (xs : List Structure) (n : ℕ) (s : ModelStructure) → slice_get (map structure_of xs) n ≡ Some s → n < length xs
stands-within xs n s e = subst (λ l. n < l) (length-map xs structure_of) (slice_get_within (map structure_of xs) n s e)

-- what was done says what the row says
module _ (facts : ProgramFacts) (old new : World) (n : ℕ) (s : ModelStructure) (row : model.World → ℕ → model.Came → Type 0) (cause : Type 0) where
  pub row-done : (removal : Removal) (tried : Tried) → IsRemoval facts old.heap s row cause removal → IsDone (world_of old) n s removal new tried → IsTried (row (world_of old) n) cause new tried
  row-done (removals.Panics name) (Came came) is e = subst (row (world_of old) n) (sym e) (is (world_of old) n refl)
  row-done (removals.Panics name) Stuck is e = absurd e
  row-done (removals.Panics name) Undecided is e = absurd e
  row-done (removals.Leaves left given) (Came came) is e = subst (row (world_of old) n) (sym e) (is (world_of old) n refl)
  row-done (removals.Leaves left given) Stuck is e = absurd e
  row-done (removals.Leaves left given) Undecided is e = absurd e
  row-done removals.Undecided tried is e = subst (IsTried (row (world_of old) n) cause new) (sym e) is

-- a row of all items or of all entries
module _ (new : World) where
  tried-more : (P Q : model.Came → Type 0) (c d : Type 0) → ((came : model.Came) → P came → Q came) → ((came : model.Came) → Q came → P came) → (c → d) → (tried : Tried) → IsTried P c new tried → IsTried Q d new tried
  tried-more P Q c d to from more (Came came) h = to (came_of came new) h
  tried-more P Q c d to from more Stuck h = λ came q. h came (from came q)
  tried-more P Q c d to from more Undecided h = more h

-- ---- rows on lists

module _ (w : model.World) (n : ℕ) (P : ModelStructure → List Value → Type 0) where
  list-here : (s : ModelStructure) (vs : List Value) → slice_get w.heap.structures n ≡ Some s → s.members ≡ Items vs → P s vs → ListAt w n P
  list-here s vs e m p = subst (λ o. IsSomeAnd o (λ x. HasItems (P x) x.members)) (sym e) (subst (HasItems (P s)) (sym m) p)

  list-from : (s : ModelStructure) (vs : List Value) → slice_get w.heap.structures n ≡ Some s → s.members ≡ Items vs → ListAt w n P → P s vs
  list-from s vs e m h = subst (HasItems (P s)) m (subst (λ o. IsSomeAnd o (λ x. HasItems (P x) x.members)) e h)

  no-list : items_at w.heap n ≡ None → ¬ (ListAt w n P)
  no-list = by (slice_get w.heap.structures n)
    where
      inside : (s : ModelStructure) (m : Members) → items_in m ≡ None → ¬ (HasItems (P s) m)
      inside s (Items vs) e h = none-some vs (sym e)
      inside s (Entries es) e h = h

      by : (o : Option ModelStructure) → option_and_then (λ s. items_in s.members) o ≡ None → ¬ (IsSomeAnd o (λ s. HasItems (P s) s.members))
      by (Some s) e h = inside s s.members e h
      by None e h = h

module _ (w : model.World) (n : ℕ) (P : ModelStructure → List (Text × Value) → Type 0) where
  mapping-here : (s : ModelStructure) (es : List (Text × Value)) → slice_get w.heap.structures n ≡ Some s → s.members ≡ Entries es → P s es → MappingAt w n P
  mapping-here s es e m p = subst (λ o. IsSomeAnd o (λ x. HasEntries (P x) x.members)) (sym e) (subst (HasEntries (P s)) (sym m) p)

  mapping-from : (s : ModelStructure) (es : List (Text × Value)) → slice_get w.heap.structures n ≡ Some s → s.members ≡ Entries es → MappingAt w n P → P s es
  mapping-from s es e m h = subst (HasEntries (P s)) m (subst (λ o. IsSomeAnd o (λ x. HasEntries (P x) x.members)) e h)

  no-mapping : entries_at w.heap n ≡ None → ¬ (MappingAt w n P)
  no-mapping = by (slice_get w.heap.structures n)
    where
      inside : (s : ModelStructure) (m : Members) → entries_in m ≡ None → ¬ (HasEntries (P s) m)
      inside s (Items vs) e h = h
      inside s (Entries es) e h = none-some es (sym e)

      by : (o : Option ModelStructure) → option_and_then (λ s. entries_in s.members) o ≡ None → ¬ (IsSomeAnd o (λ s. HasEntries (P s) s.members))
      by (Some s) e h = inside s s.members e h
      by None e h = h

-- ---- removals from the structure with a number

module _ (facts : ProgramFacts) (old new : World) (n : ℕ) where
  abbrev own : OwnTypes
  own = own_types (facts_of facts)

  abbrev IsDoneAt : Removal → Tried → Type 0
  IsDoneAt removal tried =
      (s : ModelStructure) → slice_get (world_of old).heap.structures n ≡ Some s → IsDone (world_of old) n s removal new tried

  pub item-removed : (place : Place) (removal : Removal) (tried : Tried) → IsListRemoval facts old.heap n place (Some removal) → IsDoneAt removal tried → IsTried (RemovesItem facts (world_of old) n place) (IsItemBeyond facts old n place) new tried
  item-removed place removal tried (s, at, is) done = by s.members refl is
    where
      by : (m : Members) → s.members ≡ m → HasItems (λ vs. IsItemRemoval facts old.heap s vs (place_in place vs) removal) m → IsTried (RemovesItem facts (world_of old) n place) (IsItemBeyond facts old n place) new tried
      by (Items vs) m-is is =
          let Row : model.Came → ModelStructure → List Value → Type 0 = λ came x us. RemovesAt own (world_of old) n x us (place_in place us) came in
          let Beyond : ModelStructure → List Value → Type 0 = λ x us. IsPlaceBeyond facts old.heap x us (place_in place us) in
          tried-more new (λ came. Row came s vs) (RemovesItem facts (world_of old) n place) (Beyond s vs) (IsItemBeyond facts old n place)
          (λ came p. list-here (world_of old) n (Row came) s vs at m-is p)
          (λ came p. list-from (world_of old) n (Row came) s vs at m-is p)
          (λ p. list-here (world_of old) n Beyond s vs at m-is p)
          tried
          (row-done facts old new n s (λ w k. RemovesAt own w k s vs (place_in place vs)) (Beyond s vs) removal tried is (done s at))
      by (Entries es) m-is is = absurd is

  pub entry-removed : (key : Text) (removal : Removal) (tried : Tried) → IsMappingRemoval facts old.heap n key (Some removal) → IsDoneAt removal tried → IsTried (RemovesEntry facts (world_of old) n key) (IsEntryBeyond facts old n key) new tried
  entry-removed key removal tried (s, at, is) done = by s.members refl is
    where
      by : (m : Members) → s.members ≡ m → HasEntries (λ es. IsKeyRemoval facts old.heap s es key removal) m → IsTried (RemovesEntry facts (world_of old) n key) (IsEntryBeyond facts old n key) new tried
      by (Items vs) m-is is = absurd is
      by (Entries es) m-is is =
          let Row : model.Came → ModelStructure → List (Text × Value) → Type 0 = λ came x ds. RemovesKey own (world_of old) n x ds key (entry_at ds key) came in
          let Beyond : ModelStructure → List (Text × Value) → Type 0 = λ x ds. IsKeyBeyond facts old.heap x ds key (entry_at ds key) in
          tried-more new (λ came. Row came s es) (RemovesEntry facts (world_of old) n key) (Beyond s es) (IsEntryBeyond facts old n key)
          (λ came p. mapping-here (world_of old) n (Row came) s es at m-is p)
          (λ came p. mapping-from (world_of old) n (Row came) s es at m-is p)
          (λ p. mapping-here (world_of old) n Beyond s es at m-is p)
          tried
          (row-done facts old new n s (λ w k. RemovesKey own w k s es key (entry_at es key)) (Beyond s es) removal tried is (done s at))

  pub no-item-removed : (place : Place) → IsListRemoval facts old.heap n place None → (came : model.Came) → ¬ (RemovesItem facts (world_of old) n place came)
  no-item-removed place is came row = no-list (world_of old) n (λ s vs. RemovesAt own (world_of old) n s vs (place_in place vs) came) is row

  pub no-entry-removed : (key : Text) → IsMappingRemoval facts old.heap n key None → (came : model.Came) → ¬ (RemovesEntry facts (world_of old) n key came)
  no-entry-removed key is came row = no-mapping (world_of old) n (λ s es. RemovesKey own (world_of old) n s es key (entry_at es key) came) is row

-- ---- the calls on their operands

module _ (facts : ProgramFacts) (vs : List Value) (old new : World) (n : ℕ) (tried : Tried) where
  same-row : (P : model.Came → Type 0) (c d : Type 0) → (c → d) → IsTried P c new tried → IsTried P d new tried
  same-row P c d more h = tried-more new P P c d (λ came p. p) (λ came p. p) more tried h

  pub pop-called : vs ≡ Struct n ∷ [] → IsTried (RemovesItem facts (world_of old) n Last) (IsItemBeyond facts old n Last) new tried → IsCalledBy facts call.Pop vs (IsPopBeyond facts old vs) old new tried
  pop-called is h = λ atom.
      subst (λ l. IsTried (LibraryComes (own_types (facts_of facts)) call.Pop atom l (world_of old)) (IsPopBeyond facts old l) new tried) (sym is)
      (same-row (RemovesItem facts (world_of old) n Last) (IsItemBeyond facts old n Last) (IsPopBeyond facts old (Struct n ∷ [])) (λ p. (n, refl, p)) h)

  pub remove-item-called : (i : ℤ) → vs ≡ Struct n ∷ Int i ∷ [] → IsTried (RemovesItem facts (world_of old) n (At i)) (IsItemBeyond facts old n (At i)) new tried → IsCalledBy facts call.RemoveItem vs (IsRemoveItemBeyond facts old vs) old new tried
  remove-item-called i is h = λ atom.
      subst (λ l. IsTried (LibraryComes (own_types (facts_of facts)) call.RemoveItem atom l (world_of old)) (IsRemoveItemBeyond facts old l) new tried) (sym is)
      (same-row (RemovesItem facts (world_of old) n (At i)) (IsItemBeyond facts old n (At i)) (IsRemoveItemBeyond facts old (Struct n ∷ Int i ∷ [])) (λ p. (n, i, refl, p)) h)

  pub remove-key-called : (key : Text) → vs ≡ Struct n ∷ Str key ∷ [] → IsTried (RemovesEntry facts (world_of old) n key) (IsEntryBeyond facts old n key) new tried → IsCalledBy facts call.RemoveKey vs (IsRemoveKeyBeyond facts old vs) old new tried
  remove-key-called key is h = λ atom.
      subst (λ l. IsTried (LibraryComes (own_types (facts_of facts)) call.RemoveKey atom l (world_of old)) (IsRemoveKeyBeyond facts old l) new tried) (sym is)
      (same-row (RemovesEntry facts (world_of old) n key) (IsEntryBeyond facts old n key) (IsRemoveKeyBeyond facts old (Struct n ∷ Str key ∷ [])) (λ p. (n, key, refl, p)) h)

-- on other operands they come to nothing
module _ (own : OwnTypes) (w : model.World) (atom : ℕ) (came : model.Came) where
  no-pop : (vs : List Value) → ((n : ℕ) → ¬ (vs ≡ Struct n ∷ [])) → ¬ (LibraryComes own call.Pop atom vs w came)
  no-pop (Struct n ∷ []) none row = none n refl
  no-pop _ none row = row

  no-remove-item : (vs : List Value) → ((n : ℕ) (i : ℤ) → ¬ (vs ≡ Struct n ∷ Int i ∷ [])) → ¬ (LibraryComes own call.RemoveItem atom vs w came)
  no-remove-item (Struct n ∷ Int i ∷ []) none row = none n i refl
  no-remove-item _ none row = row

  no-remove-key : (vs : List Value) → ((n : ℕ) (key : Text) → ¬ (vs ≡ Struct n ∷ Str key ∷ [])) → ¬ (LibraryComes own call.RemoveKey atom vs w came)
  no-remove-key (Struct n ∷ Str key ∷ []) none row = none n key refl
  no-remove-key _ none row = row

module _ (facts : ProgramFacts) (vs : List Value) (old new : World) where
  pub pop-stuck : ((n : ℕ) → ¬ (vs ≡ Struct n ∷ [])) → IsCalledBy facts call.Pop vs (IsPopBeyond facts old vs) old new Stuck
  pop-stuck none = λ atom came. no-pop (own_types (facts_of facts)) (world_of old) atom came vs none

  pub remove-item-stuck : ((n : ℕ) (i : ℤ) → ¬ (vs ≡ Struct n ∷ Int i ∷ [])) → IsCalledBy facts call.RemoveItem vs (IsRemoveItemBeyond facts old vs) old new Stuck
  remove-item-stuck none = λ atom came. no-remove-item (own_types (facts_of facts)) (world_of old) atom came vs none

  pub remove-key-stuck : ((n : ℕ) (key : Text) → ¬ (vs ≡ Struct n ∷ Str key ∷ [])) → IsCalledBy facts call.RemoveKey vs (IsRemoveKeyBeyond facts old vs) old new Stuck
  remove-key-stuck none = λ atom came. no-remove-key (own_types (facts_of facts)) (world_of old) atom came vs none
