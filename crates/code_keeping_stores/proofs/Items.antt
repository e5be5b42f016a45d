-- An item is stored into a list, at a place in it or behind its end: what fills the gap before it belongs to its places.
use Rattle.std.proofs.Common.{◌≡◌, ◌<◌, ◌≤◌, ◌+◌, ◌-◌, ◌++◌, ◌∙◌, ℕ, zero, suc, Bool, true, false, List, [], ◌∷◌, Option, Some, None, inl, inr, flat_map, length, refl, sym, ap, subst, arith}
use Rattle.std.proofs.lemmas.Bool.{ltb-false, ltb-true}
use Rattle.std.proofs.lemmas.List.{length-append}
use Rattle.std.specs.Prelude.{◌⊎◌, All, IsSomeAnd, IsTrue, if◌then◌else◌, nat_lt, option_and_then, slice_get, slice_set}
use Rattle.type_model.specs.declared.atoms.AtomDef.{AtomDef}
use Rattle.type_model.specs.declared.atoms.AtomDef.TheVariants.{List as ListAtom}
use Rattle.type_model.specs.declared.basic.SemType.{SemType}
use Rattle.type_model.specs.declared.basic.Ty.{Ty}
use Rattle.type_model.specs.Places.{item_type}
use Rattle.operations.specs.Rows.{NoResult}
use Rattle.value_model.specs.declared.filler.Filler.{Filler}
use Rattle.value_model.specs.declared.panics.PanicName.TheVariants.{IndexOutOfRange, InherentTypeViolation, NoFillerValue, TooLong}
use Rattle.value_model.specs.declared.value.Value.{Value}
use Rattle.value_model.specs.Heap.{AreAlike, Items, Members, Structure, values_of}
use Rattle.value_model.specs.Stands.{Belongs, BelongsIf, ItemsBelong, MembersBelong}
use Rattle.value_model.specs.Valid.{AreValidMembers, IsValidValue}
use Rattle.op_model.specs.Common.{Common}
use Rattle.op_model.specs.Effects.{lifted}
use Rattle.op_model.specs.Fillers.{IsThereFiller, filler_structures, filler_values, fillers_from, inner_fillers, new_ones}
use Rattle.op_model.specs.Levels.{all_of, levels}
use Rattle.op_model.specs.Limits.{most_items}
use Rattle.op_model.specs.Rows.{gives_nothing, next_structure, panics, within}
use Rattle.op_model.specs.Stores.{StoresAt, atom_of, fillers_of, fixed_fillers, set_item, stored, structures_for, type_at_place}
use Rattle.machine_model.specs.Runs.{Running}
use Rattle.stack_code.specs.declared.code.Code.{Code}
use Rattle.stack_code.specs.Good.{GoodCommon}
use Rattle.stack_code.specs.Values.{IsMade, code_types}
use Rattle.code_keeping.specs.Rows.{EffectTyped}
use Rattle.code_keeping.proofs.Changing.{get-set-other, get-set-same, length-set, same-or-not}
use Rattle.code_keeping.proofs.Coming.{Does, does-else, does-unless, panics-typed}
use Rattle.code_keeping.proofs.Growing.{all-from, belongs-there, front-or-behind, made-there}
use Rattle.code_keeping.proofs.Lists.{all-at, some-to, there}
use Rattle.code_keeping.proofs.Serving.{all-to}
use Rattle.code_keeping_heap.proofs.Making.{one-there}
use Rattle.code_keeping_heap.proofs.Reading.{list-members}
use Rattle.code_keeping_stores.proofs.Storing.{AreNew, IsFine, IsSmall, d, grows, store-typed, world-then}

-- ---- what stands at a place of the new list

module _ {A : Type 0} (P : ℕ → A → Type 0) (xs : List A) (k : ℕ) (gap : List A) (v : A) (old : (i : ℕ) (x : A) → slice_get xs i ≡ Some x → P i x) (between : (i : ℕ) (x : A) → slice_get gap i ≡ Some x → P (length xs + i) x) (at : P k v) (long : length gap ≡ k - length xs) where
  set-at : k < length xs → (i : ℕ) (x : A) → slice_get (slice_set xs k v) i ≡ Some x → P i x
  set-at lt i x e = by (same-or-not k i)
    where
      by : (k ≡ i) ⊎ (¬ (k ≡ i)) → P i x
      by (inl is) =
          let (y, ey) = there-at in
          let same : v ≡ x = let q : Some v ≡ Some x = sym (get-set-same xs k v y ey) ∙ ap (λ j. slice_get (slice_set xs k v) j) is ∙ e in (let z : v ≡ x = cc in z) in
          subst (λ j. P j x) is (subst (P k) same at)
        where
          there-at : (y : A) × (slice_get xs k ≡ Some y)
          there-at = there xs k lt
      by (inr ne) = old i x (sym (get-set-other xs k i v ne) ∙ e)

  behind-at : length xs ≤ k → (i : ℕ) (x : A) → slice_get (xs ++ gap ++ v ∷ []) i ≡ Some x → P i x
  behind-at le i x e = by (front-or-behind (xs ++ gap) (v ∷ []) i x e)
    where
      both : length (xs ++ gap) ≡ length xs + length gap
      both = length-append xs gap

      last : (j : ℕ) → i ≡ length (xs ++ gap) + j → slice_get (v ∷ []) j ≡ Some x → P i x
      last zero aj ex = subst (λ n. P n x) (let q : k ≡ i = omega (arith, le, long, aj, both) in q) (subst (P k) (one-there v zero x ex) at)
      last (suc j) aj ex = absurd (let q : ⊥ = cc in q)

      on : (slice_get xs i ≡ Some x) ⊎ ((m : ℕ) × (i ≡ length xs + m) × (slice_get gap m ≡ Some x)) → P i x
      on (inl ex) = old i x ex
      on (inr (m, am, ex)) = subst (λ n. P n x) (sym am) (between m x ex)

      by : (slice_get (xs ++ gap) i ≡ Some x) ⊎ ((j : ℕ) × (i ≡ length (xs ++ gap) + j) × (slice_get (v ∷ []) j ≡ Some x)) → P i x
      by (inl ex) = on (front-or-behind xs gap i x ex)
      by (inr (j, aj, ex)) = last j aj ex

  pub item-at : (i : ℕ) (x : A) → slice_get (if nat_lt k (length xs) then slice_set xs k v else xs ++ gap ++ v ∷ []) i ≡ Some x → P i x
  item-at i x e = by (nat_lt k (length xs)) refl e
    where
      by : (b : Bool) → nat_lt k (length xs) ≡ b → slice_get (if b then slice_set xs k v else xs ++ gap ++ v ∷ []) i ≡ Some x → P i x
      by true is e = set-at (ltb-true k (length xs) is) i x e
      by false is e = behind-at (ltb-false k (length xs) is) i x e

  pub item-long : length xs ≤ length (if nat_lt k (length xs) then slice_set xs k v else xs ++ gap ++ v ∷ [])
  item-long = by (nat_lt k (length xs))
    where
      by : (b : Bool) → length xs ≤ length (if b then slice_set xs k v else xs ++ gap ++ v ∷ [])
      by true = let l : length (slice_set xs k v) ≡ length xs = length-set xs k v in (let q : length xs ≤ length (slice_set xs k v) = omega (arith, l) in q)
      by false = let l : length (xs ++ gap ++ v ∷ []) ≡ length (xs ++ gap) + length (v ∷ []) = length-append (xs ++ gap) (v ∷ []) in let m : length (xs ++ gap) ≡ length xs + length gap = length-append xs gap in (let q : length xs ≤ length (xs ++ gap ++ v ∷ []) = omega (arith, l, m) in q)

-- ---- the list with the item

module _ (code : Code) (c : Common) (good : GoodCommon code c Running) (n : ℕ) (s : Structure) (vs : List Value) (e : slice_get c.world.heap.structures n ≡ Some s) (is : s.members ≡ Items vs) (mutable : IsTrue s.mutable)
    (k : ℕ) (v : Value) (its : IsMade code c v) (belongs : BelongsIf (code_types code) c.world.heap v (option_and_then (type_at_place k) (atom_of (code_types code) s))) (gap : List Value) (more : List Structure) where
  abbrev pub m : Members
  m = Items (set_item vs k gap v)

  pub kind : AreAlike s.members m
  kind = subst (λ x. AreAlike x m) (sym is) tt

  abbrev pub z : Common
  z = d code c good n s e mutable m kind more

  -- what fills the gap belongs to its places, and what is made for it is good
  pub record IsGap : Type 0 where
    pub long : length gap ≡ k - length vs
    pub each : (a : ℕ) (fixed : List Ty) (rest : Option Ty) → s.atom ≡ Some a → slice_get code.atoms a ≡ Some (ListAtom fixed rest) → length fixed ≤ length vs →
        (i : ℕ) (x : Value) → slice_get gap i ≡ Some x → BelongsIf (code_types code) z.world.heap x (item_type fixed rest (length vs + i))
    pub made : All (IsMade code z) gap
    pub new : IsSmall code c good n s e mutable m kind more → AreNew code c good n s e mutable m kind more

  module _ (fills : IsGap) where
    there-then : (x : Value) → IsMade code c x → IsMade code z x
    there-then x h = made-there code c (world-then code c good n s e mutable m kind more) good.nearly.heap (grows code c good n s e mutable m kind more) x h

    old-made : All (IsMade code c) vs
    old-made = subst (λ x. All (IsMade code c) (values_of x)) is (all-at (λ s. All (IsMade code c) (values_of s.members)) c.world.heap.structures n s good.nearly.heap.members e)

    all-made : All (IsMade code z) (set_item vs k gap v)
    all-made =
        all-from (IsMade code z) (set_item vs k gap v)
        (item-at (λ i x. IsMade code z x) vs k gap v (λ i x ex. there-then x (all-at (IsMade code c) vs i x old-made ex)) (λ i x ex. all-at (IsMade code z) gap i x fills.made ex) (there-then v its) fills.long)

    -- the value belongs to its place
    at-place : (a : ℕ) (fixed : List Ty) (rest : Option Ty) → s.atom ≡ Some a → slice_get code.atoms a ≡ Some (ListAtom fixed rest) → BelongsIf (code_types code) z.world.heap v (item_type fixed rest k)
    at-place a fixed rest ea ed =
        let same : atom_of (code_types code) s ≡ Some (ListAtom fixed rest) = ap (λ o. option_and_then (λ b. slice_get code.atoms b) o) ea ∙ ed in
        some-to (λ u. Belongs (code_types code) c.world.heap v u.sem) (λ u. Belongs (code_types code) z.world.heap v u.sem) (item_type fixed rest k)
        (λ u b. belongs-there code c (world-then code c good n s e mutable m kind more) good.nearly.heap (grows code c good n s e mutable m kind more) v u.sem its.0 b)
        (subst (λ o. BelongsIf (code_types code) c.world.heap v (option_and_then (type_at_place k) o)) same belongs)

    fine : IsFine code c good n s e mutable m kind more
    fine =
        record {
          belong = λ a definition ea ed h. by a definition ea ed (list-members code z.world.heap vs definition (subst (λ x. MembersBelong (code_types code) z.world.heap x definition) is h));
          made = all-made;
          apart = tt;
          valid = all-to (IsMade code z) IsValidValue (λ x h. h.1) (set_item vs k gap v) all-made;
        }
      where
        by : (a : ℕ) (definition : AtomDef) → s.atom ≡ Some a → slice_get code.atoms a ≡ Some definition →
            ((fixed : List Ty) × (rest : Option Ty) × (definition ≡ ListAtom fixed rest) × ItemsBelong (code_types code) z.world.heap fixed rest vs) → MembersBelong (code_types code) z.world.heap m definition
        by a definition ea ed (fixed, rest, same, belong) =
            let defined : slice_get code.atoms a ≡ Some (ListAtom fixed rest) = ed ∙ ap (λ x. Some x) same in
            let longer : length vs ≤ length (set_item vs k gap v) = item-long (λ i x. IsMade code z x) vs k gap v (λ i x ex. there-then x (all-at (IsMade code c) vs i x old-made ex)) (λ i x ex. all-at (IsMade code z) gap i x fills.made ex) (there-then v its) fills.long in
            subst (λ x. MembersBelong (code_types code) z.world.heap m x) (sym same) (
              (let l = belong.0 in omega (arith, l, longer)),
              item-at (λ i x. BelongsIf (code_types code) z.world.heap x (item_type fixed rest i)) vs k gap v belong.1 (fills.each a fixed rest ea defined belong.0) (at-place a fixed rest ea defined) fills.long,
            )

    pub item-typed : (result : Option SemType) → NoResult result → EffectTyped code c result (lifted c (within (gives_nothing (stored c.world n s m more))))
    item-typed result none = store-typed code c good n s e mutable m kind more fine fills.new result none

-- ---- the store

module _ (fillers : ℕ → List Filler) (code : Code) (c : Common) (good : GoodCommon code c Running) (n : ℕ) (s : Structure) (vs : List Value) (e : slice_get c.world.heap.structures n ≡ Some s) (is : s.members ≡ Items vs) where
  -- the fillers of the gap before a place, their values, and the structures that are made for them
  abbrev pub filling : ℕ → List Filler
  filling k = fillers_from (fillers_of (code_types code) fillers s) (length vs) (k - length vs)

  abbrev pub gap_at : ℕ → List Value
  gap_at k = filler_values (next_structure c.world) (filling k)

  abbrev pub made_at : ℕ → List Structure
  made_at k = structures_for (code_types code) fillers c.world (filling k)

  -- where there is a filler for each place of the gap, it is filled well
  abbrev pub FillsGap : ℕ → Value → Type 0
  FillsGap k v =
      (mutable : IsTrue s.mutable) (its : IsMade code c v) (belongs : BelongsIf (code_types code) c.world.heap v (option_and_then (type_at_place k) (atom_of (code_types code) s))) →
      All IsThereFiller (filling k) → IsGap code c good n s vs e is mutable k v its belongs (gap_at k) (made_at k)

  pub does-store : (result : Option SemType) → NoResult result → (o : Option ℕ) (v : Value) → IsMade code c v → ((k : ℕ) → o ≡ Some k → FillsGap k v) → Does code c good result (StoresAt (code_types code) fillers c.world n s vs o v)
  does-store result none None v its fills = does-else code c good result (panics c.world IndexOutOfRange) (panics-typed code c good result IndexOutOfRange refl)
  does-store result none (Some k) v its fills =
      does-unless code c good result (IsTrue s.mutable) (panics c.world InherentTypeViolation) _ (panics-typed code c good result InherentTypeViolation refl) (λ mutable.
      does-unless code c good result _ (panics c.world InherentTypeViolation) _ (panics-typed code c good result InherentTypeViolation refl) (λ belongs.
      does-unless code c good result (k < most_items) (panics c.world TooLong) _ (panics-typed code c good result TooLong refl) (λ few.
      does-unless code c good result (All IsThereFiller (filling k)) (panics c.world NoFillerValue) _ (panics-typed code c good result NoFillerValue refl) (λ some.
      does-else code c good result (within (gives_nothing (stored c.world n s (Items (set_item vs k (gap_at k) v)) (made_at k))))
      (item-typed code c good n s vs e is mutable k v its belongs (gap_at k) (made_at k) (fills k refl mutable its belongs some) result none)))))

  -- ---- up to the end of the list there is no gap

  levels-none : (kids : Filler → List Filler) (depth : ℕ) → levels all_of kids [] depth ≡ []
  levels-none kids zero = refl
  levels-none kids (suc depth) = ap (flat_map kids) (levels-none kids depth)

  no-filling : (k : ℕ) → k ≤ length vs → filling k ≡ []
  no-filling k le = ap (fillers_from (fillers_of (code_types code) fillers s) (length vs)) (let q : k - length vs ≡ 0 = omega (arith, le) in q)

  no-structures : (k : ℕ) → k ≤ length vs → made_at k ≡ []
  no-structures k le =
      let fixed = fixed_fillers (code_types code) fillers in
      ap (structures_for (code_types code) fillers c.world) (no-filling k le)
      ∙ ap (filler_structures fixed (next_structure c.world + 0)) (levels-none (λ f. new_ones (inner_fillers fixed f)) (length code.atoms))

  pub no-gap : (k : ℕ) (v : Value) → k ≤ length vs → FillsGap k v
  no-gap k v le mutable its belongs some =
      let none : gap_at k ≡ [] = ap (filler_values (next_structure c.world)) (no-filling k le) in
      record {
        long = ap length none ∙ (let q : 0 ≡ k - length vs = omega (arith, le) in q);
        each = λ a fixed rest ea ed long i x ex. absurd (let no : slice_get [] i ≡ Some x = subst (λ l. slice_get l i ≡ Some x) none ex in (let q : ⊥ = cc in q));
        made = all-from (IsMade code (z code c good n s vs e is mutable k v its belongs (gap_at k) (made_at k))) (gap_at k) (λ i x ex. absurd (let no : slice_get [] i ≡ Some x = subst (λ l. slice_get l i ≡ Some x) none ex in (let q : ⊥ = cc in q)));
        new = λ small j x ex. absurd (let no : slice_get [] j ≡ Some x = subst (λ l. slice_get l j ≡ Some x) (no-structures k le) ex in (let q : ⊥ = cc in q));
      }
