-- A graph is turned round edge by edge.
use Rattle.std.proofs.Common.{◌≡◌, ◌≢◌, ℕ, zero, suc, ◌+◌, ◌<◌, ◌≤◌, ◌⊎◌, inl, inr, List, [], ◌∷◌, ◌++◌, length, get_or, set, take, map, replicate, refl, sym, ap, subst, ◌∙◌, arith}
use Rattle.std.specs.List.{Contains}
use Rattle.std.proofs.lemmas.Bool.{cases_lt}
use Rattle.std.proofs.lemmas.List.{get_or-set_other, length-set, length-map, length-replicate, get_or-replicate, get_or_past}
use Rattle.std.proofs.lemmas.Grind.{get_or-set_at}
use Rattle.std.proofs.lemmas.List.Elements.{Contains-push, Contains-append_left, Contains-push_cases}
use Rattle.graphs.specs.Cycles.{Follows}
use Rattle.graphs.specs.Distances.{IsReversed}
use Rattle.graphs.specs.inner.Searching.{AddsEdge, AddsEdges, IsTurned}
use Rattle.graphs.proofs.Levels.{follows-place}
use Rattle.graphs.proofs.Noting.{among-from, among-to, none-among, same_or_not}
use Rattle.graphs.proofs.Rows.{take-more}

pub no-edges : (n : ℕ) (back : List (List ℕ)) → AddsEdges n [] back back
no-edges n back = record { long = refl; only = λ i j m. inl m; keeps = λ i j m. m; all = λ j lt m. absurd (none-among j m) }

module _ (n x : ℕ) (xs : List ℕ) (old mid : List (List ℕ)) (before : AddsEdges n xs old mid) where
  module _ (lt : x < length mid) where
    here : (j : ℕ) → j ≡ x → get_or (set mid x (get_or mid x [] ++ n ∷ [])) j [] ≡ get_or mid j [] ++ n ∷ []
    here j e = get_or-set_at mid x j (get_or mid x [] ++ n ∷ []) [] e lt ∙ ap (λ k. get_or mid k [] ++ n ∷ []) (sym e)

    other : (j : ℕ) → j ≢ x → get_or (set mid x (get_or mid x [] ++ n ∷ [])) j [] ≡ get_or mid j []
    other j e = get_or-set_other mid x j (get_or mid x [] ++ n ∷ []) [] e

    stays : (i j : ℕ) → Contains (get_or mid j []) i → Contains (get_or (set mid x (get_or mid x [] ++ n ∷ [])) j []) i
    stays i j m = by (same_or_not j x)
      where
        by : (j ≡ x) ⊎ (j ≢ x) → Contains (get_or (set mid x (get_or mid x [] ++ n ∷ [])) j []) i
        by (inl e) = subst (λ l. Contains l i) (sym (here j e)) (Contains-append_left (get_or mid j []) (n ∷ []) i m)
        by (inr e) = subst (λ l. Contains l i) (sym (other j e)) m

    only : (i j : ℕ) → Contains (get_or (set mid x (get_or mid x [] ++ n ∷ [])) j []) i → Contains (get_or old j []) i ⊎ ((i ≡ n) × Contains (xs ++ x ∷ []) j)
    only i j m = by (same_or_not j x)
      where
        earlier : Contains (get_or old j []) i ⊎ ((i ≡ n) × Contains xs j) → Contains (get_or old j []) i ⊎ ((i ≡ n) × Contains (xs ++ x ∷ []) j)
        earlier (inl m) = inl m
        earlier (inr (e, m)) = inr (e, Contains-append_left xs (x ∷ []) j m)

        pushed : (j ≡ x) → Contains (get_or mid j []) i ⊎ (n ≡ i) → Contains (get_or old j []) i ⊎ ((i ≡ n) × Contains (xs ++ x ∷ []) j)
        pushed e (inl m) = earlier (before.only i j m)
        pushed e (inr s) = inr (sym s, among-to xs x j (inr e))

        by : (j ≡ x) ⊎ (j ≢ x) → Contains (get_or old j []) i ⊎ ((i ≡ n) × Contains (xs ++ x ∷ []) j)
        by (inl e) = pushed e (Contains-push_cases (get_or mid j []) n i (subst (λ l. Contains l i) (here j e) m))
        by (inr e) = earlier (before.only i j (subst (λ l. Contains l i) (other j e) m))

    all : (j : ℕ) → j < length old → Contains (xs ++ x ∷ []) j → Contains (get_or (set mid x (get_or mid x [] ++ n ∷ [])) j []) n
    all j small m = by (among-from xs x j m)
      where
        by : Contains xs j ⊎ (j ≡ x) → Contains (get_or (set mid x (get_or mid x [] ++ n ∷ [])) j []) n
        by (inl m) = stays n j (before.all j small m)
        by (inr e) = subst (λ l. Contains l n) (sym (here j e)) (Contains-push (get_or mid j []) n)

    one-edge : AddsEdges n (xs ++ x ∷ []) old (set mid x (get_or mid x [] ++ n ∷ []))
    one-edge = record {
      long = length-set mid x (get_or mid x [] ++ n ∷ []) ∙ before.long;
      only = only;
      keeps = λ i j m. stays i j (before.keeps i j m);
      all = all;
    }

  no-edge : length mid ≤ x → AddsEdges n (xs ++ x ∷ []) old mid
  no-edge le = record {
    long = before.long;
    only = λ i j m. wider i j (before.only i j m);
    keeps = before.keeps;
    all = λ j small m. by j small (among-from xs x j m);
  }
    where
      wider : (i j : ℕ) → Contains (get_or old j []) i ⊎ ((i ≡ n) × Contains xs j) → Contains (get_or old j []) i ⊎ ((i ≡ n) × Contains (xs ++ x ∷ []) j)
      wider i j (inl m) = inl m
      wider i j (inr (e, m)) = inr (e, Contains-append_left xs (x ∷ []) j m)

      by : (j : ℕ) → j < length old → Contains xs j ⊎ (j ≡ x) → Contains (get_or mid j []) n
      by j small (inl m) = before.all j small m
      by j small (inr e) = absurd (let l = before.long in omega (arith, le, small, e, l))

-- what a step of the loop over the numbers that follow one does
pub edge-more : (n : ℕ) (ys : List ℕ) (i x : ℕ) (old mid new : List (List ℕ)) → i < length ys → x ≡ get_or ys i x
    → AddsEdge n x mid new
    → AddsEdges n (take i ys) old mid → AddsEdges n (take (i + 1) ys) old new
edge-more n ys i x old mid new lt is (inl (small, e)) before =
    subst (λ zs. AddsEdges n zs old new) (sym (take-more ys i x lt is)) (subst (AddsEdges n (take i ys ++ x ∷ []) old) (sym e) (one-edge n x (take i ys) old mid before small))
edge-more n ys i x old mid new lt is (inr (large, e)) before =
    subst (λ zs. AddsEdges n zs old new) (sym (take-more ys i x lt is)) (subst (AddsEdges n (take i ys ++ x ∷ []) old) (sym e) (no-edge n x (take i ys) old mid before large))

-- ---- number by number

pub none-turned : (next back : List (List ℕ)) → back ≡ replicate (length next) [] → IsTurned 0 next back
none-turned next back e = record {
  long = ap length e ∙ length-replicate (length next) [];
  follows = λ i j m. absurd (empty j i m);
  known = λ i j lt. absurd (omega (arith, lt));
}
  where
    empty : (j i : ℕ) → Contains (get_or back j []) i → ⊥
    empty j i m = by (cases_lt j (length next))
      where
        at : Contains (get_or (replicate (length next) []) j []) i
        at = subst (λ b. Contains (get_or b j []) i) e m

        by : (j < length next) ⊎ (length next ≤ j) → ⊥
        by (inl lt) = none-among i (subst (λ l. Contains l i) (get_or-replicate (length next) j [] [] lt) at)
        by (inr le) = none-among i (subst (λ l. Contains l i) (get_or_past (replicate (length next) []) j [] (subst (λ k. k ≤ j) (sym (length-replicate (length next) [])) le)) at)

pub more-turned : (n : ℕ) (next mid new : List (List ℕ)) → IsTurned n next mid → AddsEdges n (get_or next n []) mid new → IsTurned (n + 1) next new
more-turned n next mid new before adds = record {
  long = adds.long ∙ before.long;
  follows = λ i j m. follows i j (adds.only i j m);
  known = λ i j lt small f. known i j small f lt (same_or_not i n);
}
  where
    follows : (i j : ℕ) → Contains (get_or mid j []) i ⊎ ((i ≡ n) × Contains (get_or next n []) j) → Follows next i j
    follows i j (inl m) = before.follows i j m
    follows i j (inr (e, m)) = subst (λ k. Follows next k j) (sym e) m

    known : (i j : ℕ) → j < length next → Follows next i j → i < n + 1 → (i ≡ n) ⊎ (i ≢ n) → Contains (get_or new j []) i
    known i j small f lt (inl e) =
        subst (Contains (get_or new j [])) (sym e) (adds.all j (subst (λ k. j < k) (sym before.long) small) (subst (λ k. Follows next k j) e f))
    known i j small f lt (inr ne) = adds.keeps i j (before.known i j (below ne lt) small f)
      where
        below : i ≢ n → i < n + 1 → i < n
        below ne lt = by (cases_lt i n)
          where
            by : (i < n) ⊎ (n ≤ i) → i < n
            by (inl l) = l
            by (inr g) = absurd (ne (omega (arith, g, lt)))

pub all-turned : (count : ℕ) (next back : List (List ℕ)) → length next ≤ count → IsTurned count next back → IsReversed next back
all-turned count next back le is = record {
  long = is.long;
  follows = is.follows;
  known = λ i j small f. is.known i j (let lt = follows-place next i j f in omega (arith, lt, le)) small f;
}

-- the lists of numbers in a list of such
pub list-at : {X : Type 0} (items : X → List ℕ) (xs : List X) (i : ℕ) (d : X) → i < length xs → items (get_or xs i d) ≡ get_or (map items xs) i []
list-at items [] i d lt = absurd (omega (arith, lt))
list-at items (x ∷ xs) zero d lt = refl
list-at items (x ∷ xs) (suc i) d lt = list-at items xs i d (omega (arith, lt))

pub list-set : {X : Type 0} (items : X → List ℕ) (xs : List X) (i : ℕ) (x : X) → map items (set xs i x) ≡ set (map items xs) i (items x)
list-set items [] i x = refl
list-set items (y ∷ xs) zero x = refl
list-set items (y ∷ xs) (suc i) x = ap (λ ys. items y ∷ ys) (list-set items xs i x)

pub one-follows : {X : Type 0} (items : X → List ℕ) (back : List X) (number x : ℕ) (old new : X) → x < length back → old ≡ get_or back x old → items new ≡ items old ++ number ∷ []
    → AddsEdge number x (map items back) (map items (set back x new))
one-follows items back number x old new lt is pushed = inl (
  subst (λ n. x < n) (sym (length-map back items)) lt,
  list-set items back x new ∙ ap (set (map items back) x) (pushed ∙ ap (λ l. l ++ number ∷ []) (ap items is ∙ list-at items back x old lt)),
)

pub none-follows : {X : Type 0} (items : X → List ℕ) (back : List X) (number x : ℕ) → length back ≤ x → AddsEdge number x (map items back) (map items back)
none-follows items back number x le = inr (subst (λ n. n ≤ x) (sym (length-map back items)) le, refl)
