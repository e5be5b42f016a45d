-- What is found in the heap is what rows on lists and mappings come to.
use Rattle.std.proofs.Common.{◌≡◌, ℕ, List, Option, Some, None, IsSomeAnd, sym, subst, ap, ◌∙◌}
use Rattle.std.specs.Prelude.{option_and_then, option_map, slice_get}
use Rattle.bal_base.specs.declared.text.Text.{Text}
use Rattle.value_model.specs.declared.value.Value.{Value}
use Rattle.value_model.specs.Heap.{Entries, Items, Members, Structure, entry_at}
use Rattle.value_model.specs.World.{Came, World}
use Rattle.op_model.specs.Rows.{HasEntries, HasItems, ListAt, MappingAt, gives}
use Rattle.op_model.specs.StructureRows.{ReadsField}
use Rattle.plain_structures.specs.Lookups.{entries_at, entries_in, items_at, items_in}

-- ---- something that is made of what is there

pub some-of : {A B : Type 0} (f : A → B) (o : Option A) (b : B) (Q : A → Type 0) → Some b ≡ option_map f o → ((a : A) → b ≡ f a → Q a) → IsSomeAnd o Q
some-of f (Some a) b Q e h = h a (same b (f a) e)
  where
    same : {C : Type 0} (x y : C) → Some x ≡ Some y → x ≡ y
    same x y e = cc
some-of f None b Q e h = absurd (none b e)
  where
    none : {C : Type 0} (x : C) → Some x ≡ None → ⊥
    none x e = cc

pub none-of : {A B : Type 0} (f : A → B) (o : Option A) (Q : A → Type 0) → None ≡ option_map f o → ¬ (IsSomeAnd o Q)
none-of f (Some a) Q e h = none (f a) e
  where
    none : {C : Type 0} (x : C) → None ≡ Some x → ⊥
    none x e = cc
none-of f None Q e h = h

-- ---- lists and mappings

module _ (w : World) (n : ℕ) where
  pub to-list : (Q : List Value → Type 0) → IsSomeAnd (items_at w.heap n) Q → ListAt w n (λ s vs. Q vs)
  to-list Q h = by (slice_get w.heap.structures n) h
    where
      inside : (m : Members) → IsSomeAnd (items_in m) Q → HasItems Q m
      inside (Items vs) h = h
      inside (Entries es) h = h

      by : (o : Option Structure) → IsSomeAnd (option_and_then (λ s. items_in s.members) o) Q → IsSomeAnd o (λ s. HasItems Q s.members)
      by (Some s) h = inside s.members h
      by None h = h

  pub from-list : (Q : List Value → Type 0) → ListAt w n (λ s vs. Q vs) → IsSomeAnd (items_at w.heap n) Q
  from-list Q h = by (slice_get w.heap.structures n) h
    where
      inside : (m : Members) → HasItems Q m → IsSomeAnd (items_in m) Q
      inside (Items vs) h = h
      inside (Entries es) h = h

      by : (o : Option Structure) → IsSomeAnd o (λ s. HasItems Q s.members) → IsSomeAnd (option_and_then (λ s. items_in s.members) o) Q
      by (Some s) h = inside s.members h
      by None h = h

  pub to-mapping : (Q : List (Text × Value) → Type 0) → IsSomeAnd (entries_at w.heap n) Q → MappingAt w n (λ s es. Q es)
  to-mapping Q h = by (slice_get w.heap.structures n) h
    where
      inside : (m : Members) → IsSomeAnd (entries_in m) Q → HasEntries Q m
      inside (Items vs) h = h
      inside (Entries es) h = h

      by : (o : Option Structure) → IsSomeAnd (option_and_then (λ s. entries_in s.members) o) Q → IsSomeAnd o (λ s. HasEntries Q s.members)
      by (Some s) h = inside s.members h
      by None h = h

  pub from-mapping : (Q : List (Text × Value) → Type 0) → MappingAt w n (λ s es. Q es) → IsSomeAnd (entries_at w.heap n) Q
  from-mapping Q h = by (slice_get w.heap.structures n) h
    where
      inside : (m : Members) → HasEntries Q m → IsSomeAnd (entries_in m) Q
      inside (Items vs) h = h
      inside (Entries es) h = h

      by : (o : Option Structure) → IsSomeAnd o (λ s. HasEntries Q s.members) → IsSomeAnd (option_and_then (λ s. entries_in s.members) o) Q
      by (Some s) h = inside s.members h
      by None h = h

  -- ---- rows in which something is made of all items, or of all entries

  module _ {B : Type 0} (f : List Value → B) (F : B → Came) where
    pub list-row : (b : B) (came : Came) → Some b ≡ option_map f (items_at w.heap n) → came ≡ F b → ListAt w n (λ s vs. came ≡ F (f vs))
    list-row b came e h = to-list (λ vs. came ≡ F (f vs)) (some-of f (items_at w.heap n) b (λ vs. came ≡ F (f vs)) e (λ vs is. h ∙ ap F is))

    pub no-list-row : None ≡ option_map f (items_at w.heap n) → (came : Came) → ¬ (ListAt w n (λ s vs. came ≡ F (f vs)))
    no-list-row e came row = none-of f (items_at w.heap n) (λ vs. came ≡ F (f vs)) e (from-list (λ vs. came ≡ F (f vs)) row)

  module _ {B : Type 0} (f : List (Text × Value) → B) (F : B → Came) where
    pub mapping-row : (b : B) (came : Came) → Some b ≡ option_map f (entries_at w.heap n) → came ≡ F b → MappingAt w n (λ s es. came ≡ F (f es))
    mapping-row b came e h = to-mapping (λ es. came ≡ F (f es)) (some-of f (entries_at w.heap n) b (λ es. came ≡ F (f es)) e (λ es is. h ∙ ap F is))

    pub no-mapping-row : None ≡ option_map f (entries_at w.heap n) → (came : Came) → ¬ (MappingAt w n (λ s es. came ≡ F (f es)))
    no-mapping-row e came row = none-of f (entries_at w.heap n) (λ es. came ≡ F (f es)) e (from-mapping (λ es. came ≡ F (f es)) row)

  -- ---- a member that has to be there

  module _ (key : Text) where
    abbrev IsField : Came → List (Text × Value) → Type 0
    IsField came es = IsSomeAnd (entry_at es key) (λ x. came ≡ gives w x)

    pub field-row : (v : Value) (came : Came) → Some v ≡ option_and_then (λ es. entry_at es key) (entries_at w.heap n) → came ≡ gives w v → ReadsField w n key came
    field-row v came e h = to-mapping (IsField came) (at (entries_at w.heap n) e)
      where
        none : {C : Type 0} (x : C) → Some x ≡ None → ⊥
        none x e = cc

        at : (o : Option (List (Text × Value))) → Some v ≡ option_and_then (λ es. entry_at es key) o → IsSomeAnd o (IsField came)
        at (Some es) e = subst (λ o. IsSomeAnd o (λ x. came ≡ gives w x)) e h
        at None e = absurd (none v e)

    pub no-field-row : None ≡ option_and_then (λ es. entry_at es key) (entries_at w.heap n) → (came : Came) → ¬ (ReadsField w n key came)
    no-field-row e came row = at (entries_at w.heap n) e (from-mapping (IsField came) row)
      where
        at : (o : Option (List (Text × Value))) → None ≡ option_and_then (λ es. entry_at es key) o → ¬ (IsSomeAnd o (IsField came))
        at (Some es) e h = subst (λ o. IsSomeAnd o (λ x. came ≡ gives w x)) (sym e) h
        at None e h = h
