-- What is held behind a store, and whether there is room for it.
use Rattle.std.proofs.Common.{◌≡◌, ◌∙◌, ◌+◌, ◌-◌, ℕ, Bool, true, false, nat_le, List, [], ◌∷◌, ◌++◌, Option, Some, None, IsSomeAnd, length, map, refl, sym, ap, arith}
use Rattle.std.specs.Prelude.{is_some, nat_lt, slice_get, slice_set, if◌then◌else◌}
use Rattle.std.specs.List.{sum_by}
use Rattle.std.proofs.lemmas.List.{append-nil, length-append, length-set}
use Rattle.bal_base.specs.declared.text.Text.{Text}
use Rattle.type_model.specs.Places.{is_same_text}
use Rattle.value_model.specs.declared.value.Value.{Value}
use Rattle.value_model.specs.Heap.{Entries, Items, Members, Structure, cells, entry_at}
use Rattle.value_model.specs.World.{World, Gave, PassesCells}
use Rattle.op_model.specs.ProgramFacts.{own_types}
use Rattle.op_model.specs.Fillers.{filler_values}
use Rattle.op_model.specs.Limits.{most_cells}
use Rattle.op_model.specs.Rows.{HasEntries, HasItems, StructureAt, gives_nothing, next_structure, size_of, with_structures, within}
use Rattle.op_model.specs.Stores.{item_stored, set_entry, set_item, stored, with_members}
use Rattle.plain_run.specs.declared.facts.ProgramFacts.{ProgramFacts}
use Rattle.plain_run.specs.ProgramFacts.{facts_of}
use Rattle.plain_run.specs.Held.{structure_of}
use Rattle.plain_stores.specs.declared.making.Making.{Making}
use Rattle.plain_stores.specs.declared.making.Prepared.TheVariants.{Passes, Makes}
use Rattle.plain_stores.specs.Changes.{EntryHasRoom, IsMaking, IsPrepared, changed_at, changed_by, entries_behind, gap_of, has_place, made_of, room_of, size_behind, with_entry, with_item}
use Rattle.plain_stores.proofs.Cells.{stored-cells}
use Rattle.plain_stores.proofs.Changed.{changed-set}

-- ---- sizes

pub size-set : (vs gap : List Value) (k : ℕ) (v : Value) → length (set_item vs k gap v) ≡ size_behind (length vs) k (length gap)
size-set vs gap k v = by (nat_lt k (length vs))
  where
    by : (b : Bool) → length (if b then slice_set vs k v else vs ++ gap ++ v ∷ []) ≡ (if b then length vs else length vs + length gap + 1)
    by true = length-set vs k v
    by false =
        let all = length-append (vs ++ gap) (v ∷ []) in
        let front = length-append vs gap in
        let e : length (vs ++ gap ++ v ∷ []) ≡ length vs + length gap + 1 = omega (arith, all, front) in
        e

pub size-entry : (es : List (Text × Value)) (key : Text) (v : Value) → length (set_entry es key v) ≡ entries_behind es key
size-entry [] key v = refl
size-entry (e ∷ es) key v = by (is_same_text e.0 key) (size-entry es key v)
  where
    more : (b : Bool) → (if b then length es else length es + 1) + 1 ≡ (if b then length es + 1 else length es + 1 + 1)
    more true = refl
    more false = refl

    by : (b : Bool) → length (set_entry es key v) ≡ entries_behind es key → length (if b then (e.0, v) ∷ es else e ∷ set_entry es key v) ≡ (if is_some (if b then Some e.1 else entry_at es key) then length (e ∷ es) else length (e ∷ es) + 1)
    by true h = refl
    by false h = inner (is_some (entry_at es key)) h
      where
        inner : (c : Bool) → length (set_entry es key v) ≡ (if c then length es else length es + 1) → length (e ∷ set_entry es key v) ≡ (if c then length (e ∷ es) else length (e ∷ es) + 1)
        inner true h = omega (arith, h)
        inner false h = omega (arith, h)

-- ---- what comes of a store that is done, and of one for which there is no room

module _ (w : World) (n : ℕ) (s : Structure) (m : Members) (more : List Structure) (e : slice_get w.heap.structures n ≡ Some s) where
  room-is : (size : ℕ) → size_of m ≡ size → has_place w s.greatest size more ≡ nat_le (cells (stored w n s m more).heap) most_cells
  room-is size z =
      ap (λ k. nat_le (cells w.heap + ((k - s.greatest) + sum_by (λ x. x.greatest + 1) more)) most_cells) (sym z)
      ∙ ap (λ k. nat_le k most_cells) (sym (stored-cells w n s m more e))

  pub comes-stored : (size : ℕ) → size_of m ≡ size → has_place w s.greatest size more ≡ true → Gave [] (stored w n s m more) ≡ within (gives_nothing (stored w n s m more))
  comes-stored size z r = sym (ap (λ b. if b then Gave [] (stored w n s m more) else PassesCells) (sym (room-is size z) ∙ r))

  pub comes-past : (size : ℕ) → size_of m ≡ size → has_place w s.greatest size more ≡ false → PassesCells ≡ within (gives_nothing (stored w n s m more))
  comes-past size z r = sym (ap (λ b. if b then Gave [] (stored w n s m more) else PassesCells) (sym (room-is size z) ∙ r))

-- ---- at a place of a list

module _ (facts : ProgramFacts) (w : World) (n : ℕ) (s : Structure) (vs : List Value) (k : ℕ) (v : Value) (e : slice_get w.heap.structures n ≡ Some s) (m : s.members ≡ Items vs) where
  abbrev item-world : World
  item-world = item_stored (own_types (facts_of facts)) (facts_of facts).fillers w n s vs k v

  abbrev gap-values : List Value
  gap-values = filler_values (next_structure w) (gap_of facts w s (length vs) k)

  pub item-past : room_of facts w s (length vs) k ≡ false → PassesCells ≡ within (gives_nothing item-world)
  item-past r =
      comes-past w n s (Items (set_item vs k gap-values v)) (made_of facts w s (length vs) k) e (size_behind (length vs) k (length gap-values)) (size-set vs gap-values k v) r

  pub item-comes : (gap : List Value) (more : List Structure) (new : World) → gap ≡ gap-values → more ≡ made_of facts w s (length vs) k → room_of facts w s (length vs) k ≡ true → new ≡ with_structures w (changed_at (changed_by (with_item k gap v)) w.heap.structures n ++ more) → Gave [] new ≡ within (gives_nothing item-world)
  item-comes gap more new g o r h =
      let held : changed_at (changed_by (with_item k gap v)) w.heap.structures n ++ more ≡ slice_set w.heap.structures n (with_members s (Items (set_item vs k gap-values v))) ++ made_of facts w s (length vs) k =
      (λ i. changed-set (changed_by (with_item k (g i) v)) w.heap.structures n s e i ++ o i)
      ∙ ap (λ x. slice_set w.heap.structures n (with_members s (with_item k gap-values v x)) ++ made_of facts w s (length vs) k) m in
      ap (Gave []) (h ∙ ap (with_structures w) held)
      ∙ comes-stored w n s (Items (set_item vs k gap-values v)) (made_of facts w s (length vs) k) e (size_behind (length vs) k (length gap-values)) (size-set vs gap-values k v) r

-- ---- at a key of a mapping

module _ (w : World) (n : ℕ) (s : Structure) (es : List (Text × Value)) (key : Text) (v : Value) (e : slice_get w.heap.structures n ≡ Some s) (m : s.members ≡ Entries es) where
  abbrev entry-world : World
  entry-world = stored w n s (Entries (set_entry es key v)) []

  pub entry-past : has_place w s.greatest (entries_behind es key) [] ≡ false → PassesCells ≡ within (gives_nothing entry-world)
  entry-past r = comes-past w n s (Entries (set_entry es key v)) [] e (entries_behind es key) (size-entry es key v) r

  pub entry-comes : (new : World) → has_place w s.greatest (entries_behind es key) [] ≡ true → new ≡ with_structures w (changed_at (changed_by (with_entry key v)) w.heap.structures n) → Gave [] new ≡ within (gives_nothing entry-world)
  entry-comes new r h =
      let held : changed_at (changed_by (with_entry key v)) w.heap.structures n ≡ slice_set w.heap.structures n (with_members s (Entries (set_entry es key v))) ++ [] =
      changed-set (changed_by (with_entry key v)) w.heap.structures n s e
      ∙ (ap (λ x. slice_set w.heap.structures n (with_members s (with_entry key v x))) m
      ∙ sym (append-nil (slice_set w.heap.structures n (with_members s (Entries (set_entry es key v)))))) in
      ap (Gave []) (h ∙ ap (with_structures w) held)
      ∙ comes-stored w n s (Entries (set_entry es key v)) [] e (entries_behind es key) (size-entry es key v) r

-- ---- of the structure with the number

module _ (w : World) (n : ℕ) where
  pub list-row : (P Q : Structure → List Value → Type 0) → ((s : Structure) (vs : List Value) → slice_get w.heap.structures n ≡ Some s → s.members ≡ Items vs → P s vs → Q s vs) → StructureAt w n (λ s. HasItems (P s) s.members) → StructureAt w n (λ s. HasItems (Q s) s.members)
  list-row P Q f h = by (slice_get w.heap.structures n) refl h
    where
      inside : (s : Structure) → slice_get w.heap.structures n ≡ Some s → (x : Members) → s.members ≡ x → HasItems (P s) x → HasItems (Q s) x
      inside s e (Items vs) m h = f s vs e m h
      inside s e (Entries es) m h = h

      by : (o : Option Structure) → slice_get w.heap.structures n ≡ o → IsSomeAnd o (λ s. HasItems (P s) s.members) → IsSomeAnd o (λ s. HasItems (Q s) s.members)
      by (Some s) e h = inside s e s.members refl h
      by None e h = h

  pub mapping-row : (P Q : Structure → List (Text × Value) → Type 0) → ((s : Structure) (es : List (Text × Value)) → slice_get w.heap.structures n ≡ Some s → s.members ≡ Entries es → P s es → Q s es) → StructureAt w n (λ s. HasEntries (P s) s.members) → StructureAt w n (λ s. HasEntries (Q s) s.members)
  mapping-row P Q f h = by (slice_get w.heap.structures n) refl h
    where
      inside : (s : Structure) → slice_get w.heap.structures n ≡ Some s → (x : Members) → s.members ≡ x → HasEntries (P s) x → HasEntries (Q s) x
      inside s e (Items vs) m h = h
      inside s e (Entries es) m h = f s es e m h

      by : (o : Option Structure) → slice_get w.heap.structures n ≡ o → IsSomeAnd o (λ s. HasEntries (P s) s.members) → IsSomeAnd o (λ s. HasEntries (Q s) s.members)
      by (Some s) e h = inside s e s.members refl h
      by None e h = h

-- ---- what was prepared for the list with the number

module _ (facts : ProgramFacts) (w : World) (n k : ℕ) where
  pub prepared-past : (v : Value) → IsPrepared facts w n k Passes → StructureAt w n (λ s. HasItems (λ vs. PassesCells ≡ within (gives_nothing (item_stored (own_types (facts_of facts)) (facts_of facts).fillers w n s vs k v))) s.members)
  prepared-past v h =
      list-row w n (λ s vs. room_of facts w s (length vs) k ≡ false) (λ s vs. PassesCells ≡ within (gives_nothing (item_stored (own_types (facts_of facts)) (facts_of facts).fillers w n s vs k v))) (λ s vs e m r. item-past facts w n s vs k v e m r) h

  pub prepared-done : (v : Value) (making : Making) (new : World) → IsPrepared facts w n k (Makes making) → new ≡ with_structures w (changed_at (changed_by (with_item k making.gap.items v)) w.heap.structures n ++ map structure_of making.more.items) → StructureAt w n (λ s. HasItems (λ vs. Gave [] new ≡ within (gives_nothing (item_stored (own_types (facts_of facts)) (facts_of facts).fillers w n s vs k v))) s.members)
  prepared-done v making new h e =
      list-row w n (λ s vs. IsMaking facts w s (length vs) k (Makes making)) (λ s vs. Gave [] new ≡ within (gives_nothing (item_stored (own_types (facts_of facts)) (facts_of facts).fillers w n s vs k v)))
      (λ s vs at m r. item-comes facts w n s vs k v at m making.gap.items (map structure_of making.more.items) new r.0 r.1 r.2 e) h

-- ---- the entry of the mapping with the number

module _ (w : World) (n : ℕ) (key : Text) (v : Value) where
  pub entry-full : EntryHasRoom w n key (Some false) → StructureAt w n (λ s. HasEntries (λ es. PassesCells ≡ within (gives_nothing (stored w n s (Entries (set_entry es key v)) []))) s.members)
  entry-full h =
      mapping-row w n (λ s es. has_place w s.greatest (entries_behind es key) [] ≡ false) (λ s es. PassesCells ≡ within (gives_nothing (stored w n s (Entries (set_entry es key v)) []))) (λ s es e m r. entry-past w n s es key v e m r) h

  pub entry-done : (ss : List Structure) → EntryHasRoom w n key (Some true) → ss ≡ changed_at (changed_by (with_entry key v)) w.heap.structures n → StructureAt w n (λ s. HasEntries (λ es. Gave [] (with_structures w ss) ≡ within (gives_nothing (stored w n s (Entries (set_entry es key v)) []))) s.members)
  entry-done ss h e =
      mapping-row w n (λ s es. has_place w s.greatest (entries_behind es key) [] ≡ true) (λ s es. Gave [] (with_structures w ss) ≡ within (gives_nothing (stored w n s (Entries (set_entry es key v)) [])))
      (λ s es at m r. entry-comes w n s es key v at m (with_structures w ss) r (ap (with_structures w) e)) h
