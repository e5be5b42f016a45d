-- What stands at an index of lists, by what stands at the places that atoms tell apart.
use Rattle.std.proofs.Common.{◌≡◌, ◌⊎◌, ⊎_elim, inl, inr, ℕ, ◌+◌, ◌-◌, ◌<◌, ◌≤◌, ◌^◌, List, [], ◌∷◌, ◌++◌, length, All, Option, Some, None, slice_get, sym, subst, ◌∙◌, arith}
use Rattle.std.proofs.Math.ListN.{set, length-set}
use Rattle.std.proofs.lemmas.List.{length_push}
use Rattle.std.proofs.lemmas.List.Elements.{All-weaker}
use Rattle.std.proofs.lemmas.Option.{slice_get_within}
use Rattle.bal_base.specs.declared.shape.Shape.{Shape}
use Rattle.type_model.specs.declared.atoms.AtomDef.{AtomDef}
use Rattle.type_diagrams.specs.declared.projection.Projection.{Projection}
use Rattle.type_diagrams.specs.declared.projection.Projection.TheVariants.{Parts, Ask}
use Rattle.type_diagrams.specs.Conditions.{Condition, IsNothing, nothing}
use Rattle.type_diagrams.specs.Tables.{Table}
use Rattle.type_diagrams.specs.Whole.{Gives}
use Rattle.empty_product.specs.Items.{StandsAtIndex, StandsBefore, StandsInList, TellsIndex, TellsListsAt, TellsListsBefore}
use Rattle.empty_product.specs.Lists.{AreWithout, FixesBefore, HasHeldItem, IsSameFrom}
use Rattle.empty_product.proofs.AtomLists.{order}
use Rattle.empty_product.proofs.Gathering.{along-Gathers, begun-Gathers, none-Gathers}
use Rattle.empty_product.proofs.ItemPlaces.{Contains-at, at-Contains, at_place}
use Rattle.empty_product.proofs.Moved.{AreMoved, at-last, changed-AreMoved, changed-at, moved-AreWithout, moved-HasHeldItem, moved-along, moved-back, padded, pushed-AreMoved}

abbrev pub IsShort : ℕ → Type 0
IsShort n = n < 2 ^ 63

-- ---- places behind those that atoms fix

pub before-more : (env : List AtomDef) (n m : ℕ) → n ≤ m → (atoms : List ℕ) → All (FixesBefore env n) atoms → All (FixesBefore env m) atoms
before-more env n m le = All-weaker (FixesBefore env n) (FixesBefore env m) (λ a before place fixes. let lt = before place fixes in omega (arith, lt, le))

pub same-more : (n m : ℕ) (base : ℕ → Condition) → n ≤ m → IsSameFrom n base → IsSameFrom m base
same-more n m base le same place more = same place (omega (arith, le, more)) ∙ sym (same m le)

-- ---- what stands there

-- no list has an item there
pub past-TellsIndex : (env : List AtomDef) (base : ℕ → Condition) (table : Table) (kept : List (ℕ × Option Shape)) (wanted unwanted : List ℕ) (index q : ℕ) → 2 ^ 63 ≤ index + 1 → Gives table nothing q → TellsIndex env base table kept wanted unwanted (Some index) (Parts q)
past-TellsIndex env base table kept wanted unwanted index q le gives =
    none-Gathers env table (StandsAtIndex env base wanted unwanted (Some index)) (HasHeldItem env table kept) nothing q gives
    (λ items y s. let within = slice_get_within items index y s.stands in let short = s.short in absurd (omega (arith, le, within, short)))

module _ (env : List AtomDef) (base : ℕ → Condition) (n : ℕ) (same : IsSameFrom n base) (wanted unwanted : List ℕ) (wanted_before : All (FixesBefore env n) wanted) (unwanted_before : All (FixesBefore env n) unwanted)
    (table : Table) (kept : List (ℕ × Option Shape)) where
  abbrev At : ℕ → List Shape → Shape → Type 0
  At place = StandsInList env base wanted unwanted IsShort place

  abbrev AtIndex : Option ℕ → List Shape → Shape → Type 0
  AtIndex index = StandsAtIndex env base wanted unwanted index

  abbrev IsHeld : List Shape → Type 0
  IsHeld = HasHeldItem env table kept

  moved : (xs ys : List Shape) → AreMoved n xs ys → AreWithout env base wanted unwanted xs → AreWithout env base wanted unwanted ys
  moved = moved-AreWithout env base n same wanted unwanted wanted_before unwanted_before

  -- an item behind the first places, moved to the first place behind them
  to_first : (items : List Shape) (index : ℕ) (y : Shape) → n ≤ index → IsShort (length items) → AreWithout env base wanted unwanted items → slice_get items index ≡ Some y → (w : List Shape) × At n w y × (IsHeld w → IsHeld items)
  to_first items index y le short list stands =
      let within = slice_get_within items index y stands in
      let z = at_place items n (omega (arith, le, within)) in
      let w = set (set items index z.0) n y in
      let is_moved = changed-AreMoved n index n items y z.0 le (omega arith) stands z.1 in
      let long : length w ≡ length items = length-set (set items index z.0) n y ∙ length-set items index z.0 in (
        w,
        record { count = omega (arith, short, long); list = moved items w is_moved list; stands = changed-at n index n items y z.0 le (omega arith) stands z.1 },
        λ held. moved-HasHeldItem env table kept n w items (moved-back n items w is_moved) held,
      )

  -- and an item there moved to an index behind it, where further ones are put behind, if there are fewer
  to_index : (items : List Shape) (index : ℕ) (y : Shape) → n ≤ index → index + 1 < 2 ^ 63 → At n items y → (w : List Shape) × AtIndex (Some index) w y
  to_index items index y le few s = by (order index (length items))
    where
      by : (index < length items) ⊎ (length items ≤ index) → (w : List Shape) × AtIndex (Some index) w y
      by (inl lt) =
          let z = at_place items index lt in
          let w = set (set items n z.0) index y in
          let is_moved = changed-AreMoved n n index items y z.0 (omega arith) le s.stands z.1 in
          let long : length w ≡ length items = length-set (set items n z.0) index y ∙ length-set items n z.0 in
          let short = s.count in (
            w,
            record { short = omega (arith, short, long); list = moved items w is_moved s.list; stands = changed-at n n index items y z.0 (omega arith) le s.stands z.1 },
          )
      by (inr more) =
          let p = padded n (index - length items) items y s.stands in
          let ys = p.0 in
          let long = p.2 in
          let exact : length ys ≡ index = omega (arith, long, more) in
          let w = ys ++ y ∷ [] in
          let pushed = length_push ys y in (
            w,
            record {
              short = omega (arith, pushed, exact, few);
              list = moved items w (moved-along n items ys w p.1 (pushed-AreMoved n ys y p.3)) s.list;
              stands = subst (λ k. slice_get w k ≡ Some y) exact (at-last ys y);
            },
          )

  -- what stands at a place that an atom may fix
  fixed-TellsIndex : (index : ℕ) (found : Condition) → IsNothing found → (p : Projection) → TellsListsAt env base table kept wanted unwanted IsShort index found p → TellsIndex env base table kept wanted unwanted (Some index) p
  fixed-TellsIndex index found none (Parts q) h =
      begun-Gathers env table (AtIndex (Some index)) IsHeld found q none
      (along-Gathers env table (At index) IsHeld found q (AtIndex (Some index)) IsHeld
      (λ items y s. (items, record { short = s.count; list = s.list; stands = s.stands }))
      (λ items y s. inl (items, record { count = s.short; list = s.list; stands = s.stands }, λ held. held))
      h)
  fixed-TellsIndex index found none (Ask q) h = h

  -- what stands at the first place behind those is what stands at each later one
  later-TellsIndex : (index : ℕ) (found : Condition) → n ≤ index → index + 1 < 2 ^ 63 → IsNothing found → (p : Projection) → TellsListsAt env base table kept wanted unwanted IsShort n found p → TellsIndex env base table kept wanted unwanted (Some index) p
  later-TellsIndex index found le few none (Parts q) h =
      begun-Gathers env table (AtIndex (Some index)) IsHeld found q none
      (along-Gathers env table (At n) IsHeld found q (AtIndex (Some index)) IsHeld
      (λ items y s. to_index items index y le few s)
      (λ items y s. inl (to_first items index y le s.short s.list s.stands))
      h)
  later-TellsIndex index found le few none (Ask q) h = h

  pub index-TellsIndex : (index place : ℕ) (found : Condition) → index + 1 < 2 ^ 63 → (index < n → place ≡ index) → (n ≤ index → place ≡ n) → IsNothing found → (p : Projection) → TellsListsAt env base table kept wanted unwanted IsShort place found p → TellsIndex env base table kept wanted unwanted (Some index) p
  index-TellsIndex index place found few fixed later none p h = ⊎_elim
      (λ (lt : index < n). fixed-TellsIndex index found none p (subst (λ k. TellsListsAt env base table kept wanted unwanted IsShort k found p) (fixed lt) h))
      (λ (le : n ≤ index). later-TellsIndex index found le few none p (subst (λ k. TellsListsAt env base table kept wanted unwanted IsShort k found p) (later le) h))
      (order index n)

  -- what stands at one of the places up to that is all that stands in lists
  pub any-TellsIndex : (p : Projection) → TellsListsBefore env base table kept wanted unwanted IsShort (n + 1) nothing p → TellsIndex env base table kept wanted unwanted None p
  any-TellsIndex (Parts q) h =
      along-Gathers env table (StandsBefore env base wanted unwanted IsShort (n + 1)) IsHeld nothing q (AtIndex None) IsHeld
      (λ items y s. (items, record { short = s.in_list.count; list = s.in_list.list; stands = at-Contains items s.place y s.in_list.stands }))
      (λ items y s. inl (let k = Contains-at items y s.stands in before items y s k.0 k.1 (order k.0 n)))
      h
    where
      before : (items : List Shape) (y : Shape) → AtIndex None items y → (k : ℕ) → slice_get items k ≡ Some y → (k < n) ⊎ (n ≤ k) → (w : List Shape) × StandsBefore env base wanted unwanted IsShort (n + 1) w y × (IsHeld w → IsHeld items)
      before items y s k at (inl lt) = (items, record { place = k; before = omega (arith, lt); in_list = record { count = s.short; list = s.list; stands = at } }, λ held. held)
      before items y s k at (inr le) =
          let first = to_first items k y le s.short s.list at in
          (first.0, record { place = n; before = omega arith; in_list = first.1 }, first.2)
  any-TellsIndex (Ask q) h = h
