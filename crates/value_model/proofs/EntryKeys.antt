-- Keys in order, of which there are as many as entries, and each has an entry: these are all keys of the entries.
use Rattle.std.proofs.Common.{◌≡◌, ◌⊎◌, ⊎_elim, inl, inr, suc, zero, ◌≤◌, List, [], ◌∷◌, length, All, Contains, Bool, true, false, cond, ◌||◌, Some, refl, sym, subst, ◌∙◌, arith}
use Rattle.std.specs.List.{AllByRecursion, IsDistinct, list_any}
use Rattle.std.specs.Option.{IsSome}
use Rattle.std.specs.Map.{lookup}
use Rattle.std.specs.Cmp.Lexicographic.{bytes_decides}
use Rattle.std.proofs.lemmas.Bool.{false≢true}
use Rattle.std.proofs.lemmas.Cmp.{nat_list_eq_equiv}
use Rattle.std.proofs.lemmas.List.Elements.{All-head, All-tail}
use Rattle.std.proofs.lemmas.Map.Keys.{IsDistinct-cons}
use Rattle.std.proofs.lemmas.Map.Steps.{length-le_from_keys}
use Rattle.bal_base.specs.declared.text.Text.{Text}
use Rattle.type_model.specs.Places.{is_same_text}
use Rattle.type_model.proofs.TextOrder.{Below, below-further, below-apart, not-below-itself, KeysSorted}
use Rattle.value_model.specs.declared.value.Value.{Value}
use Rattle.value_model.specs.Heap.{entry_at}

abbrev pub HasEntry : List (Text × Value) → Text → Type 0
HasEntry es key = IsSome (entry_at es key)

-- ---- lists of texts

pub same-text : (s t : Text) → is_same_text s t ≡ true → s ≡ t
same-text s t h = (bytes_decides s t).0 h

pub text-same : (s t : Text) → s ≡ t → is_same_text s t ≡ true
text-same s t h = (bytes_decides s t).1 h

pub Contains-split : (x k : Text) (xs : List Text) → Contains (x ∷ xs) k → (x ≡ k) ⊎ Contains xs k
Contains-split x k xs (zero, lt, is) = inl is
Contains-split x k xs (suc i, lt, is) = inr (i, omega (arith, lt), is)

pub Contains-later : (x k : Text) (xs : List Text) → Contains xs k → Contains (x ∷ xs) k
Contains-later x k xs (i, lt, is) = (suc i, omega (arith, lt), is)

pub Contains-first : (x : Text) (xs : List Text) → Contains (x ∷ xs) x
Contains-first x xs = (0, omega arith, refl)

not-none : (k : Text) → Contains [] k → ⊥
not-none k (i, lt, is) = omega (arith, lt)

-- which key of the list is this one
pub found-in : (k : Text) (xs : List Text) → list_any (is_same_text k) xs ≡ true → Contains xs k
found-in k [] h = absurd (false≢true h)
found-in k (x ∷ xs) h = by (is_same_text k x) refl (found-in k xs) h
  where
    by : (b : Bool) → is_same_text k x ≡ b → (list_any (is_same_text k) xs ≡ true → Contains xs k) → (b || list_any (is_same_text k) xs) ≡ true → Contains (x ∷ xs) k
    by true e rest h = subst (Contains (x ∷ xs)) (sym (same-text k x e)) (Contains-first x xs)
    by false e rest h = Contains-later x k xs (rest h)

apart-from : (k : Text) (xs : List Text) → list_any (is_same_text k) xs ≡ false → AllByRecursion (λ y. is_same_text k y ≡ false) xs
apart-from k [] h = tt
apart-from k (x ∷ xs) h = by (is_same_text k x) refl (apart-from k xs) h
  where
    by : (b : Bool) → is_same_text k x ≡ b → (list_any (is_same_text k) xs ≡ false → AllByRecursion (λ y. is_same_text k y ≡ false) xs) → (b || list_any (is_same_text k) xs) ≡ false → AllByRecursion (λ y. is_same_text k y ≡ false) (x ∷ xs)
    by true e rest h = absurd (false≢true (sym h))
    by false e rest h = (e, rest h)

pub sorted-apart : (xs : List Text) → KeysSorted xs → IsDistinct is_same_text xs
unfolding IsDistinct
sorted-apart [] h = tt
sorted-apart (x ∷ xs) h = (each xs h.0, sorted-apart xs h.1)
  where
    each : (ys : List Text) → All (Below x) ys → AllByRecursion (λ y. is_same_text x y ≡ false) ys
    each [] h = tt
    each (y ∷ ys) h = (by (is_same_text x y) refl, each ys (All-tail (Below x) y ys h))
      where
        by : (b : Bool) → is_same_text x y ≡ b → b ≡ false
        by true e = absurd (below-apart x y (All-head (Below x) y ys h) (same-text x y e))
        by false e = refl

-- ---- at most as many keys as entries

entry-looked-up : (es : List (Text × Value)) (key : Text) → HasEntry es key → IsSome (lookup (is_same_text key) es)
entry-looked-up [] key h = h
entry-looked-up (e ∷ es) key h = by (is_same_text e.0 key) (is_same_text key e.0) (nat_list_eq_equiv.symm e.0 key) (entry-looked-up es key) h
  where
    by : (b c : Bool) → b ≡ c → (HasEntry es key → IsSome (lookup (is_same_text key) es)) → IsSome (cond b (Some e.1) (entry_at es key)) → IsSome (cond c (Some e.1) (lookup (is_same_text key) es))
    by true true same rest h = refl
    by true false same rest h = absurd (false≢true (sym same))
    by false true same rest h = absurd (false≢true same)
    by false false same rest h = rest h

at-most : (es : List (Text × Value)) (xs : List Text) → IsDistinct is_same_text xs → ((k : Text) → Contains xs k → HasEntry es k) → length xs ≤ length es
at-most es xs apart each =
    length-le_from_keys nat_list_eq_equiv xs es apart (λ k h. entry-looked-up es k (each k (found-in k xs h)))

pub at-Contains : (P : Text → Type 0) (xs : List Text) → All P xs → (k : Text) → Contains xs k → P k
at-Contains P xs h k (i, lt, is) = subst P is (h i k lt)

module _ (es : List (Text × Value)) (xs : List Text) (sorted : KeysSorted xs) (each : All (HasEntry es) xs) where
  pub keys-at-most : length xs ≤ length es
  keys-at-most = at-most es xs (sorted-apart xs sorted) (at-Contains (HasEntry es) xs each)

  -- as many keys as entries: no other key has an entry
  pub keys-fill : length es ≤ length xs → (key : Text) → HasEntry es key → Contains xs key
  keys-fill long key there = by (list_any (is_same_text key) xs) refl
    where
      by : (b : Bool) → list_any (is_same_text key) xs ≡ b → Contains xs key
      by true e = found-in key xs e
      by false e =
          let more : length (key ∷ xs) ≤ length es = at-most es (key ∷ xs) (IsDistinct-cons is_same_text key xs (apart-from key xs e) (sorted-apart xs sorted))
          (λ k c. ⊎_elim (λ (same : key ≡ k). subst (HasEntry es) same there) (λ (d : Contains xs k). at-Contains (HasEntry es) xs each k d) (Contains-split key k xs c)) in
          absurd (omega (arith, more, long))

-- ---- two lists in order with the same keys are one

pub one-order : (xs ys : List Text) → KeysSorted xs → KeysSorted ys → ((k : Text) → Contains xs k → Contains ys k) → ((k : Text) → Contains ys k → Contains xs k) → xs ≡ ys
one-order [] [] s t f g = refl
one-order [] (y ∷ ys) s t f g = absurd (not-none y (g y (Contains-first y ys)))
one-order (x ∷ xs) [] s t f g = absurd (not-none x (f x (Contains-first x xs)))
one-order (x ∷ xs) (y ∷ ys) s t f g =
    let head : x ≡ y = ⊎_elim (λ (e : y ≡ x). sym e) (λ (c : Contains ys x). ⊎_elim (λ (e : x ≡ y). e)
    (λ (d : Contains xs y). absurd (not-below-itself x (below-further x y x (at-Contains (Below x) xs s.0 y d) (at-Contains (Below y) ys t.0 x c)))) (Contains-split x y xs (g y (Contains-first y ys)))) (Contains-split y x ys (f x (Contains-first x xs))) in
    λ i. head i ∷ one-order xs ys s.1 t.1 (rest x y xs ys head s.0 f) (rest y x ys xs (sym head) t.0 g) i
  where
    rest : (x y : Text) (xs ys : List Text) → x ≡ y → All (Below x) xs → ((k : Text) → Contains (x ∷ xs) k → Contains (y ∷ ys) k) → (k : Text) → Contains xs k → Contains ys k
    rest x y xs ys head below f k c =
        ⊎_elim (λ (e : y ≡ k). absurd (below-apart x k (at-Contains (Below x) xs below k c) (head ∙ e))) (λ (d : Contains ys k). d) (Contains-split y k ys (f k (Contains-later x k xs c)))
