-- Items behind all places that atoms tell apart may change places, and further ones may stand behind them.
use Rattle.std.proofs.Common.{◌≡◌, ◌⊎◌, ⊎_elim, inl, inr, ℕ, zero, suc, ◌+◌, ◌<◌, ◌≤◌, List, [], ◌∷◌, ◌++◌, length, get_or, All, Option, Some, slice_get, refl, sym, ap, subst, ◌∙◌, arith}
use Rattle.std.proofs.Math.ListN.{set, length-set}
use Rattle.std.proofs.lemmas.Bool.{cases_eq}
use Rattle.std.proofs.lemmas.List.{length_push}
use Rattle.std.proofs.lemmas.Option.{slice_get_within}
use Rattle.bal_base.specs.declared.shape.Shape.{Shape}
use Rattle.type_model.specs.declared.atoms.AtomDef.{AtomDef}
use Rattle.type_diagrams.specs.Conditions.{Condition, IsShapeOf, Meets}
use Rattle.type_diagrams.specs.Members.{item_of}
use Rattle.type_diagrams.specs.Tables.{Table}
use Rattle.empty_product.specs.Lists.{AreWithout, FixesBefore, HasHeldItem, IsInAtom, IsSameFrom}
use Rattle.empty_product.proofs.ItemPlaces.{Contains-at, at-Contains, at_append_left, at_push, some_same}
use Rattle.empty_product.proofs.LongerLists.{AllowsLength-longer, item_of-behind}
use Rattle.empty_product.proofs.PlacedParts.{slice_get-set_other, slice_get-set_same}

-- two places are one, or both are behind
abbrev AreAlike : ℕ → ℕ → ℕ → Type 0
AreAlike n i j = (i ≡ j) ⊎ ((n ≤ i) × (n ≤ j))

-- each of the items is one of the others, at a place that is alike
abbrev pub Moves : ℕ → List Shape → List Shape → Type 0
Moves n xs ys = (i : ℕ) (x : Shape) → slice_get xs i ≡ Some x → (j : ℕ) × (slice_get ys j ≡ Some x) × AreAlike n i j

-- the same items, but for places that are alike
pub record AreMoved (n : ℕ) (xs ys : List Shape) : Type 0 where
  pub long : n < length xs
  pub also : n < length ys
  pub on : Moves n xs ys
  pub back : Moves n ys xs

pub moved-back : (n : ℕ) (xs ys : List Shape) → AreMoved n xs ys → AreMoved n ys xs
moved-back n xs ys m = record { long = m.also; also = m.long; on = m.back; back = m.on }

alike-along : (n i j k : ℕ) → AreAlike n i j → AreAlike n j k → AreAlike n i k
alike-along n i j k (inl e) (inl f) = inl (e ∙ f)
alike-along n i j k (inl e) (inr f) = inr (subst (λ m. n ≤ m) (sym e) f.0, f.1)
alike-along n i j k (inr e) (inl f) = inr (e.0, subst (λ m. n ≤ m) f e.1)
alike-along n i j k (inr e) (inr f) = inr (e.0, f.1)

moves-along : (n : ℕ) (xs ys zs : List Shape) → Moves n xs ys → Moves n ys zs → Moves n xs zs
moves-along n xs ys zs f g i x is =
    let a = f i x is in
    let b = g a.0 x a.1 in
    (b.0, b.1, alike-along n i a.0 b.0 a.2 b.2)

pub moved-along : (n : ℕ) (xs ys zs : List Shape) → AreMoved n xs ys → AreMoved n ys zs → AreMoved n xs zs
moved-along n xs ys zs f g = record { long = f.long; also = g.also; on = moves-along n xs ys zs f.on g.on; back = moves-along n zs ys xs g.back f.back }

pub moved-itself : (n : ℕ) (xs : List Shape) → n < length xs → AreMoved n xs xs
moved-itself n xs long = record { long = long; also = long; on = λ i x is. (i, is, inl refl); back = λ i x is. (i, is, inl refl) }

-- ---- two places changed

module _ (n i j : ℕ) (xs : List Shape) (x y : Shape) (behind_i : n ≤ i) (behind_j : n ≤ j) (at_i : slice_get xs i ≡ Some x) (at_j : slice_get xs j ≡ Some y) where
  abbrev pub changed : List Shape
  changed = set (set xs i y) j x

  within_i : i < length xs
  within_i = slice_get_within xs i x at_i

  within_j : j < length (set xs i y)
  within_j = omega (arith, slice_get_within xs j y at_j, length-set xs i y)

  pub changed-at : slice_get changed j ≡ Some x
  changed-at = slice_get-set_same (set xs i y) j x within_j

  -- where the other one went
  changed-other : (k : ℕ) × (slice_get changed k ≡ Some y) × (n ≤ k)
  changed-other = ⊎_elim
      (λ (e : i ≡ j). (j, changed-at ∙ ap Some (some_same x y (sym at_i ∙ ap (slice_get xs) e ∙ at_j)), behind_j))
      (λ (ne : i ≡ j → ⊥). (i, slice_get-set_other (set xs i y) j i x ne ∙ slice_get-set_same xs i y within_i, behind_i))
      (cases_eq i j)

  pub changed-AreMoved : AreMoved n xs changed
  changed-AreMoved = record {
    long = omega (arith, within_i, behind_i);
    also = omega (arith, within_i, behind_i, length-set (set xs i y) j x, length-set xs i y);
    on = λ k z is. ⊎_elim
        (λ (e : k ≡ j). let o = changed-other in (o.0, o.1 ∙ ap Some (some_same y z (sym at_j ∙ sym (ap (slice_get xs) e) ∙ is)), inr (subst (λ m. n ≤ m) (sym e) behind_j, o.2)))
        (λ (no : k ≡ j → ⊥). ⊎_elim
        (λ (e : k ≡ i). (j, changed-at ∙ ap Some (some_same x z (sym at_i ∙ sym (ap (slice_get xs) e) ∙ is)), inr (subst (λ m. n ≤ m) (sym e) behind_i, behind_j)))
        (λ (ne : k ≡ i → ⊥). (k, slice_get-set_other (set xs i y) j k x no ∙ slice_get-set_other xs i k y ne ∙ is, inl refl))
        (cases_eq k i))
        (cases_eq k j);
    back = λ k z is. ⊎_elim
        (λ (e : k ≡ j). (i, at_i ∙ ap Some (some_same x z (sym changed-at ∙ sym (ap (slice_get changed) e) ∙ is)), inr (subst (λ m. n ≤ m) (sym e) behind_j, behind_i)))
        (λ (no : k ≡ j → ⊥). ⊎_elim
        (λ (e : k ≡ i). (j, at_j ∙ ap Some (some_same y z (sym (slice_get-set_same xs i y within_i) ∙ sym (slice_get-set_other (set xs i y) j i x (λ f. no (e ∙ f))) ∙ sym (ap (slice_get changed) e) ∙ is)), inr (subst (λ m. n ≤ m) (sym e) behind_i, behind_j)))
        (λ (ne : k ≡ i → ⊥). (k, sym (slice_get-set_other xs i k y ne) ∙ sym (slice_get-set_other (set xs i y) j k x no) ∙ is, inl refl))
        (cases_eq k i))
        (cases_eq k j);
  }

-- ---- further items

-- the last one
pub at-last : (xs : List Shape) (y : Shape) → slice_get (xs ++ y ∷ []) (length xs) ≡ Some y
at-last [] y = refl
at-last (x ∷ xs) y = at-last xs y

-- one that stands there already once more
pub pushed-AreMoved : (n : ℕ) (xs : List Shape) (y : Shape) → slice_get xs n ≡ Some y → AreMoved n xs (xs ++ y ∷ [])
pushed-AreMoved n xs y at =
    let long = slice_get_within xs n y at in
    let more = length_push xs y in
    record {
      long = long;
      also = omega (arith, long, more);
      on = λ i x is. (i, at_append_left xs (y ∷ []) i x is, inl refl);
      back = λ i x is. ⊎_elim
          (λ (a : slice_get xs i ≡ Some x). (i, a, inl refl))
          (λ (b : (i ≡ length xs) × (y ≡ x)). let e = b.0 in (n, at ∙ ap Some b.1, inr (omega (arith, long, e), omega arith)))
          (at_push xs y i x is);
    }

-- and so many times
pub padded : (n d : ℕ) (xs : List Shape) (y : Shape) → slice_get xs n ≡ Some y → (ys : List Shape) × AreMoved n xs ys × (length ys ≡ d + length xs) × (slice_get ys n ≡ Some y)
padded n zero xs y at = (xs, moved-itself n xs (slice_get_within xs n y at), omega arith, at)
padded n (suc d) xs y at =
    let before = padded n d xs y at in
    let ys = before.0 in
    let long = before.2 in
    let more = length_push ys y in
    (ys ++ y ∷ [], moved-along n xs ys (ys ++ y ∷ []) before.1 (pushed-AreMoved n ys y before.3), omega (arith, long, more), at_append_left ys (y ∷ []) n y before.3)

-- ---- lists of which this may be said

module _ (env : List AtomDef) (base : ℕ → Condition) (n : ℕ) (same : IsSameFrom n base) (wanted unwanted : List ℕ) (wanted_before : All (FixesBefore env n) wanted) (unwanted_before : All (FixesBefore env n) unwanted) where
  base-alike : (i j : ℕ) → AreAlike n i j → base i ≡ base j
  base-alike i j (inl e) = ap base e
  base-alike i j (inr b) = same i b.0 ∙ sym (same j b.1)

  item-alike : (a : ℕ) → FixesBefore env n a → (i j : ℕ) → AreAlike n i j → item_of env i a ≡ item_of env j a
  item-alike a before i j (inl e) = ap (λ k. item_of env k a) e
  item-alike a before i j (inr b) = item_of-behind env n a before i b.0 ∙ sym (item_of-behind env n a before j b.1)

  moved-IsInAtom : (xs ys : List Shape) → AreMoved n xs ys → (a : ℕ) → FixesBefore env n a → IsInAtom env a ys → IsInAtom env a xs
  moved-IsInAtom xs ys m a before is = record {
    allowed = AllowsLength-longer env n a (length ys) (length xs) before m.also m.long is.allowed;
    each = λ i x at. let f = m.on i x at in subst (λ c. Meets env c x) (sym (item-alike a before i f.0 f.2)) (is.each f.0 x f.1);
  }

  pub moved-AreWithout : (xs ys : List Shape) → AreMoved n xs ys → AreWithout env base wanted unwanted xs → AreWithout env base wanted unwanted ys
  moved-AreWithout xs ys m without = record {
    allowed = λ k d lt. AllowsLength-longer env n (get_or wanted k d) (length xs) (length ys) (wanted_before k d lt) m.long m.also (without.allowed k d lt);
    inside = λ j y at. let f = m.back j y at in subst (λ c. IsShapeOf env c y) (sym (base-alike j f.0 f.2)) (without.inside f.0 y f.1);
    outside = λ k d lt is. without.outside k d lt (moved-IsInAtom xs ys m (get_or unwanted k d) (unwanted_before k d lt) is);
  }

pub moved-HasHeldItem : (env : List AtomDef) (table : Table) (kept : List (ℕ × Option Shape)) (n : ℕ) (xs ys : List Shape) → AreMoved n xs ys → HasHeldItem env table kept xs → HasHeldItem env table kept ys
moved-HasHeldItem env table kept n xs ys m h =
    let at = Contains-at xs h.item h.among in
    let f = m.on at.0 h.item at.1 in
    record { item = h.item; among = at-Contains ys f.0 h.item f.1; held = h.held }
