-- A shape of a value has at most as many levels as there are structures: on each level is another one.
use Rattle.std.proofs.Common.{◌≡◌, ◌⊎◌, ⊎_elim, ◌∙◌, ℕ, zero, suc, ◌+◌, ◌<◌, ◌≤◌, max, Bool, true, false, ◌||◌, List, [], ◌∷◌, All, length, slice_get, refl, sym, ap, subst, arith}
use Rattle.std.specs.Prelude.{IsFalse}
use Rattle.std.specs.List.{AllByRecursion, IsDistinct, list_any}
use Rattle.std.proofs.Math.Dec.{eqb}
use Rattle.std.proofs.lemmas.Bool.{eqb-true, false≢true}
use Rattle.std.proofs.lemmas.List.Elements.{All-head, All-tail}
use Rattle.std.proofs.lemmas.Map.Keys.{IsDistinct-cons}
use Rattle.std.proofs.lemmas.Map.Steps.{length-le_from_distinct_below}
use Rattle.std.proofs.lemmas.Option.{slice_get_within}
use Rattle.bal_base.specs.declared.text.Text.{Text}
use Rattle.bal_base.specs.declared.shape.Shape.{Shape, Nil as NilShape, Bool as BoolShape, Int as IntShape, Str as StrShape, List', Mapping', Error', Function as FunctionShape, Future', Row_of-Shape, end_of-Shape, more_of-Shape, items-the_row-Shape as shapes_in, Row_of-Fields-items-2 as Row_of-Field, end_of-Fields-items-2 as end_of-Field, more_of-Fields-items-2 as more_of-Field, items-the_row-Fields-items-2 as fields_in}
use Rattle.bal_base.specs.Levels.{levels, greatest, greatest_field}
use Rattle.bal_base.specs.Valid.{IsFrozen, IsValid, AreValid, FieldsValid}
use Rattle.bal_base.proofs.SameShapes.{levels-same}
use Rattle.value_model.specs.declared.value.Value.{Value}
use Rattle.value_model.specs.declared.value.Value.TheVariants.{Struct}
use Rattle.value_model.specs.Heap.{Heap, Members, Items, Entries, entry_at}
use Rattle.value_model.specs.Stands.{HasShape, HaveShapes, HaveFields, IsList, IsMapping}
use Rattle.plain_tests.specs.Shapes.{IsInner}
use Rattle.value_model.proofs.OneShape.{one, there-some}

either-of : (k a b : ℕ) → k ≤ max a b → (k ≤ a) ⊎ (k ≤ b)
either-of k a b le = grind arith

last-or-not : (k a : ℕ) → k ≤ a + 1 → (k ≤ a) ⊎ (k ≡ a + 1)
last-or-not k a le = grind arith

module _ (h : Heap) where
  -- a structure with a shape of so many levels
  abbrev HasLevels : ℕ → ℕ → Type 0
  HasLevels n k = (x : Shape) × IsInner h (Struct n) x × (levels x ≡ k)

  one-levels : (n j k : ℕ) → HasLevels n j → HasLevels n k → j ≡ k
  one-levels n j k (x, (vx, fx, hx), ex) (y, (vy, fy, hy), ey) = sym ex ∙ levels-same x y (one h x y (Struct n) vx vy hx hy) ∙ ey

  abbrev OnLevel : ℕ → Type 0
  OnLevel k = (n : ℕ) × (n < length h.structures) × HasLevels n k

  from-list : (P : List Value → Type 0) (R : Type 0) → ((vs : List Value) → P vs → R) → (m : Members) → IsList h P m → R
  from-list P R f (Items vs) p = f vs p
  from-list P R f (Entries es) p = absurd p

  from-mapping : (P : List (Text × Value) → Type 0) (R : Type 0) → ((es : List (Text × Value)) → P es → R) → (m : Members) → IsMapping h P m → R
  from-mapping P R f (Items vs) p = absurd p
  from-mapping P R f (Entries es) p = f es p

  FrozenField : Text × Shape → Type 0
  FrozenField f = IsFrozen f.1

  mutual
    on-level : (x : Shape) (v : Value) (k : ℕ) → IsValid x → IsFrozen x → HasShape h x v → 1 ≤ k → k ≤ levels x → OnLevel k
    on-level NilShape v k valid frozen has low high = absurd (omega (arith, low, high))
    on-level (BoolShape b) v k valid frozen has low high = absurd (omega (arith, low, high))
    on-level (IntShape i) v k valid frozen has low high = absurd (omega (arith, low, high))
    on-level (StrShape t) v k valid frozen has low high = absurd (omega (arith, low, high))
    on-level (List' mark s items) (Struct n) k valid frozen has low high =
        let at = there-some (λ s. IsFalse s.mutable × IsList h (HaveShapes h items) s.members) (slice_get h.structures n) has.1 in
        ⊎_elim
        (λ (le : k ≤ greatest items). from-list (HaveShapes h items) (OnLevel k) (λ vs p. on-row _ items vs k valid.1 (valid.0 has.0) p low le) at.0.members at.2.1)
        (λ (e : k ≡ greatest items + 1). (n, slice_get_within h.structures n at.0 at.1, (List' mark s items, (valid, frozen, has), sym e)))
        (last-or-not k (greatest items) high)
    on-level (List' mark s items) v k valid frozen has low high = absurd has.1
    on-level (Mapping' mark s fields) (Struct n) k valid frozen has low high =
        let P : List (Text × Value) → Type 0 = λ es. (length es ≡ length (fields_in _ fields)) × HaveFields h fields es in
        let at = there-some (λ s. IsFalse s.mutable × IsMapping h P s.members) (slice_get h.structures n) has.1 in
        ⊎_elim
        (λ (le : k ≤ greatest_field fields). from-mapping P (OnLevel k) (λ es p. on-fields _ fields es k valid.3 (valid.2 has.0) p.1 low le) at.0.members at.2.1)
        (λ (e : k ≡ greatest_field fields + 1). (n, slice_get_within h.structures n at.0 at.1, (Mapping' mark s fields, (valid, frozen, has), sym e)))
        (last-or-not k (greatest_field fields) high)
    on-level (Mapping' mark s fields) v k valid frozen has low high = absurd has.1
    on-level (Error' _ detail) v k valid frozen has low high = absurd frozen
    on-level (FunctionShape isolated graph) v k valid frozen has low high = absurd frozen
    on-level (Future' _ results) v k valid frozen has low high = absurd frozen

    on-row : (n : _) (row : Row_of-Shape n) (vs : List Value) (k : ℕ) → AreValid row → All IsFrozen (shapes_in n row) → HaveShapes h row vs → 1 ≤ k → k ≤ greatest row → OnLevel k
    on-row n end_of-Shape vs k valid frozen has low high = absurd (omega (arith, low, high))
    on-row n (more_of-Shape x xs) [] k valid frozen has low high = absurd has
    on-row n (more_of-Shape x xs) (v ∷ vs) k valid frozen has low high =
        ⊎_elim
        (λ (le : k ≤ levels x). on-level x v k valid.0 (All-head IsFrozen x _ frozen) has.0 low le)
        (λ (le : k ≤ greatest xs). on-row _ xs vs k valid.1 (All-tail IsFrozen x _ frozen) has.1 low le)
        (either-of k (levels x) (greatest xs) high)

    on-fields : (n : _) (row : Row_of-Field n) (es : List (Text × Value)) (k : ℕ) → FieldsValid row → All (λ f. IsFrozen f.1) (fields_in n row) → HaveFields h row es → 1 ≤ k → k ≤ greatest_field row → OnLevel k
    on-fields n end_of-Field es k valid frozen has low high = absurd (omega (arith, low, high))
    on-fields n (more_of-Field key x more) es k valid frozen has low high =
        ⊎_elim
        (λ (le : k ≤ levels x).
        let at = there-some (HasShape h x) (entry_at es key) has.0 in
        on-level x at.0 k valid.0 (All-head (λ (f : Text × Shape). IsFrozen f.1) (key, x) _ frozen) at.2 low le)
        (λ (le : k ≤ greatest_field more). on-fields _ more es k valid.1 (All-tail (λ (f : Text × Shape). IsFrozen f.1) (key, x) _ frozen) has.1 low le)
        (either-of k (levels x) (greatest_field more) high)

  -- ---- a structure for each level

  record Numbers (d : ℕ) : Type 0 where
    numbers : List ℕ
    long : length numbers ≡ d
    apart : IsDistinct eqb numbers
    each : (q : ℕ) → list_any (eqb q) numbers ≡ true → (q < length h.structures) × ((k : ℕ) × (k ≤ d) × HasLevels q k)

  none-apart : (q : ℕ) (xs : List ℕ) → list_any (eqb q) xs ≡ false → AllByRecursion (λ y. eqb q y ≡ false) xs
  none-apart q [] e = tt
  none-apart q (x ∷ xs) e = by (eqb q x) refl (none-apart q xs) e
    where
      by : (b : Bool) → eqb q x ≡ b → (list_any (eqb q) xs ≡ false → AllByRecursion (λ y. eqb q y ≡ false) xs) → (b || list_any (eqb q) xs) ≡ false → AllByRecursion (λ y. eqb q y ≡ false) (x ∷ xs)
      by true e rest h = absurd (false≢true (sym h))
      by false e rest h = (e, rest h)

  no-numbers : Numbers 0
  unfolding IsDistinct
  no-numbers = record { numbers = []; long = refl; apart = tt; each = λ q e. absurd (false≢true e) }

  more-numbers : (d : ℕ) → Numbers d → OnLevel (suc d) → Numbers (suc d)
  more-numbers d r (n, below, at) = record {
    numbers = n ∷ r.numbers;
    long = ap suc r.long;
    apart = IsDistinct-cons eqb n r.numbers (none-apart n r.numbers (new (list_any (eqb n) r.numbers) refl)) r.apart;
    each = λ q e. by q (eqb q n) refl e;
  }
    where
      new : (b : Bool) → list_any (eqb n) r.numbers ≡ b → b ≡ false
      new true e =
          let there = r.each n e in
          let same = one-levels n there.1.0 (suc d) there.1.2 at in
          absurd (omega (arith, same, there.1.1))
      new false e = refl

      by : (q : ℕ) (b : Bool) → eqb q n ≡ b → (b || list_any (eqb q) r.numbers) ≡ true → (q < length h.structures) × ((k : ℕ) × (k ≤ suc d) × HasLevels q k)
      by q true e t =
          let same : q ≡ n = eqb-true q n e in
          (subst (λ m. m < length h.structures) (sym same) below, (suc d, omega arith, subst (λ m. HasLevels m (suc d)) (sym same) at))
      by q false e t = let there = r.each q t in (there.0, (there.1.0, omega (arith, there.1.1), there.1.2))

  all-numbers : (x : Shape) (v : Value) → IsInner h v x → (d : ℕ) → d ≤ levels x → Numbers d
  all-numbers x v is zero le = no-numbers
  all-numbers x v is (suc d) le = more-numbers d (all-numbers x v is d (omega (arith, le))) (on-level x v (suc d) is.0 is.1 is.2 (omega arith) le)

  pub few-levels : (x : Shape) (v : Value) → IsInner h v x → levels x ≤ length h.structures
  few-levels x v is =
      let r = all-numbers x v is (levels x) (omega arith) in
      let at-most = length-le_from_distinct_below r.numbers (length h.structures) r.apart (λ q e. (r.each q e).0) in
      omega (arith, at-most, r.long)
