-- One more key in a list of keys in order: at its place, or behind all.
use Rattle.std.proofs.Common.{◌≡◌, ◌⊎◌, ⊎_elim, inl, inr, ℕ, zero, suc, ◌+◌, ◌<◌, ◌≤◌, List, [], ◌∷◌, ◌++◌, length, get_or, take, drop, All, Contains, Some, slice_get, refl, sym, ap, subst, ◌∙◌, arith, length-take, length-drop}
use Rattle.std.specs.declared.cmp.Ordering.{Ordering}
use Rattle.std.specs.declared.cmp.Ordering.TheVariants.{Less, Equal, Greater}
use Rattle.std.specs.List.{AllWithin, insert}
use Rattle.std.specs.List.Sorted.{IsNonDecreasingBy, IsPartitionPoint}
use Rattle.std.specs.Ordering.{nat_cmp, ordering_index, ordering_then}
use Rattle.std.specs.Cmp.{alike_right, tied_itself, nat_cmp_total}
use Rattle.std.specs.Cmp.Lexicographic.{slice_cmp, nat_list_cmp_total}
use Rattle.std.proofs.lemmas.List.{get_or-take, get_or-drop, take-append-drop}
use Rattle.std.proofs.lemmas.List.Elements.{All-nil, All-cons, All-head, All-tail, All-push, All-append, All-get_or, All-weaker, All-contains_itself, Contains-append_left, Contains-append_right}
use Rattle.bal_base.specs.declared.text.Text.{Text}
use Rattle.bal_base.specs.Valid.{IsText}
use Rattle.type_model.proofs.TextOrder.{Below, below-further, above-below, KeysSorted, Sorted-rise, rise-Sorted}
use Rattle.type_diagrams.proofs.Elements.{All-parts}
use Rattle.empty_product.specs.Keys.{Rise, AreInOrder, HasAdded, IsBehind}
use Rattle.empty_product.proofs.SortedLists.{Sorted-append, Sorted-push}
use Rattle.empty_product.proofs.Zipped.{none_some, some_same, All-slice_get}

pub rise-keys : (keys : List Text) → Rise keys → KeysSorted keys
rise-keys keys h = Sorted-rise (λ k. k) keys h

pub keys-rise : (keys : List Text) → KeysSorted keys → Rise keys
keys-rise keys h = rise-Sorted (λ k. k) keys h

Sorted-join : (xs ys : List Text) → KeysSorted xs → KeysSorted ys → All (λ x. All (Below x) ys) xs → KeysSorted (xs ++ ys)
Sorted-join [] ys h k cross = k
Sorted-join (x ∷ xs) ys h k cross =
    (All-append (Below x) xs ys h.0 (All-head (λ z. All (Below z) ys) x xs cross), Sorted-join xs ys h.1 k (All-tail (λ z. All (Below z) ys) x xs cross))

-- ---- a key at its place

-- which of two keys in order is above another one
order-index : (s t key : Text) → Below s t → ordering_index (slice_cmp nat_cmp s key) ≤ ordering_index (slice_cmp nat_cmp t key)
order-index s t key h = by (slice_cmp nat_cmp t key) refl
  where
    most : (o : Ordering) → ordering_index o ≤ 2
    most Less = omega arith
    most Equal = omega arith
    most Greater = omega arith

    less : Below s key → (n : ℕ) → ordering_index (slice_cmp nat_cmp s key) ≤ n
    less b n = let e : ordering_index (slice_cmp nat_cmp s key) ≡ 0 = ap ordering_index b in omega arith

    by : (o : Ordering) → slice_cmp nat_cmp t key ≡ o → ordering_index (slice_cmp nat_cmp s key) ≤ ordering_index o
    by Less e = less (below-further s t key h e) 0
    by Equal e = less (sym (alike_right nat_list_cmp_total t key s e) ∙ h) 1
    by Greater e = most (slice_cmp nat_cmp s key)

Sorted-below : (xs : List Text) → KeysSorted xs → (i j : ℕ) (d : Text) → i < j → j < length xs → Below (get_or xs i d) (get_or xs j d)
Sorted-below [] h i j d l m = absurd (omega (arith, m))
Sorted-below (x ∷ xs) h i zero d l m = absurd (omega (arith, l))
Sorted-below (x ∷ xs) h zero (suc j) d l m = All-get_or (Below x) xs j d (omega (arith, m)) h.0
Sorted-below (x ∷ xs) h (suc i) (suc j) d l m = Sorted-below xs h.1 i j d (omega (arith, l)) (omega (arith, m))

in_order : (keys : List Text) (key : Text) → KeysSorted keys → IsNonDecreasingBy (λ k. ordering_index (slice_cmp nat_cmp k key)) keys
in_order keys key h i j d le lt =
    ⊎_elim
    (λ (l : i < j). order-index (get_or keys i d) (get_or keys j d) key (Sorted-below keys h i j d l lt))
    (λ (e : i ≡ j). subst (λ n. ordering_index (slice_cmp nat_cmp (get_or keys i d) key) ≤ ordering_index (slice_cmp nat_cmp (get_or keys n d) key)) e (same _))
    (split i j le)
  where
    same : (n : ℕ) → n ≤ n
    same n = omega arith

    split : (i j : ℕ) → i ≤ j → (i < j) ⊎ (i ≡ j)
    split i j le = grind arith

within-take : (P : Text → Type 0) (i : ℕ) (xs : List Text) → i ≤ length xs → AllWithin P xs 0 i → All P (take i xs)
within-take P i xs le h k d lt =
    let l : k < i = omega (arith, length-take {A = Text}, lt) in
    subst P (sym (get_or-take i xs k d l)) (h k d (omega arith) l)

within-drop : (P : Text → Type 0) (i : ℕ) (xs : List Text) → i ≤ length xs → AllWithin P xs i (length xs) → All P (drop i xs)
within-drop P i xs le h k d lt =
    let l : i + k < length xs = omega (arith, length-drop {A = Text}, lt) in
    subst P (sym (get_or-drop i xs k d)) (h (i + k) d (omega arith) l)

module _ (keys : List Text) (i : ℕ) (key : Text) (le : i ≤ length keys) (ordered : AreInOrder keys) (text : IsText key) where
  module _ (at : IsNonDecreasingBy (λ k. ordering_index (slice_cmp nat_cmp k key)) keys → IsPartitionPoint (λ k. slice_cmp nat_cmp k key ≡ Less) (λ k. slice_cmp nat_cmp k key ≡ Greater) keys i) where
    pub insert-ordered : AreInOrder (insert keys i key)
    insert-ordered =
        let all = rise-keys keys ordered.rise in
        let parts = Sorted-append (λ k. k) (take i keys) (drop i keys) (subst KeysSorted (sym (take-append-drop i keys)) all) in
        let point = at (in_order keys key all) in
        let below = within-take (λ k. slice_cmp nat_cmp k key ≡ Less) i keys le point.0 in
        let above = All-weaker (λ k. slice_cmp nat_cmp k key ≡ Greater) (Below key) (λ k h. above-below k key h) (drop i keys) (within-drop (λ k. slice_cmp nat_cmp k key ≡ Greater) i keys le point.1) in
        let cross = both (take i keys) (drop i keys) below parts.2 in
        let texts = All-parts IsText (take i keys) (drop i keys) (subst (All IsText) (sym (take-append-drop i keys)) ordered.texts) in record {
          texts = All-append IsText (take i keys) (key ∷ drop i keys) texts.0 (All-cons IsText key (drop i keys) text texts.1);
          rise = keys-rise (insert keys i key) (Sorted-join (take i keys) (key ∷ drop i keys) parts.0 (above, parts.1) cross);
        }
      where
        both : (xs ys : List Text) → All (λ k. Below k key) xs → All (λ x. All (Below x) ys) xs → All (λ x. All (Below x) (key ∷ ys)) xs
        both [] ys h k = All-nil _
        both (x ∷ xs) ys h k =
            All-cons (λ z. All (Below z) (key ∷ ys)) x xs (All-cons (Below x) key ys (All-head (λ z. Below z key) x xs h) (All-head (λ z. All (Below z) ys) x xs k)) (both xs ys (All-tail (λ z. Below z key) x xs h) (All-tail (λ z. All (Below z) ys) x xs k))

  pub insert-added : HasAdded (λ k. k ≡ key) keys (insert keys i key)
  insert-added = record {
    among = All-append Of (take i keys) (key ∷ drop i keys) split.0 (All-cons Of key (drop i keys) (inr refl) split.1);
    kept = subst (All (Contains (insert keys i key))) (take-append-drop i keys)
        (All-append (Contains (insert keys i key)) (take i keys) (drop i keys)
        (All-weaker (Contains (take i keys)) (Contains (insert keys i key)) (λ k c. Contains-append_left (take i keys) (key ∷ drop i keys) k c) (take i keys) (All-contains_itself (take i keys)))
        (All-weaker (Contains (drop i keys)) (Contains (insert keys i key)) (λ k c. Contains-append_right (take i keys) (key ∷ drop i keys) k (Contains-append_right (key ∷ []) (drop i keys) k c)) (drop i keys) (All-contains_itself (drop i keys))));
    added = λ k e. subst (Contains (insert keys i key)) (sym e) (Contains-append_right (take i keys) (key ∷ drop i keys) key (Contains-append_left (key ∷ []) (drop i keys) key (0, omega arith, refl)));
  }
    where
      Of : Text → Type 0
      Of k = Contains keys k ⊎ (k ≡ key)

      split : All Of (take i keys) × All Of (drop i keys)
      split = All-parts Of (take i keys) (drop i keys) (subst (All Of) (sym (take-append-drop i keys)) (All-weaker (Contains keys) Of (λ k c. inl c) keys (All-contains_itself keys)))

-- it stands at its place
pub insert-at : (keys : List Text) (i : ℕ) (key : Text) → i ≤ length keys → slice_get (insert keys i key) i ≡ Some key
insert-at [] zero key le = refl
insert-at [] (suc i) key le = absurd (omega (arith, le))
insert-at (k ∷ keys) zero key le = refl
insert-at (k ∷ keys) (suc i) key le = insert-at keys i key (omega (arith, le))

-- a key that is there
pub there-added : (keys : List Text) (key : Text) → Contains keys key → HasAdded (λ k. k ≡ key) keys keys
there-added keys key c = record {
  among = All-weaker (Contains keys) (λ k. Contains keys k ⊎ (k ≡ key)) (λ k h. inl h) keys (All-contains_itself keys);
  kept = All-contains_itself keys;
  added = λ k e. subst (Contains keys) (sym e) c;
}

-- ---- a key behind all

longer-below : (s : Text) (a : ℕ) → Below s (s ++ a ∷ [])
longer-below [] a = refl
longer-below (c ∷ s) a = ap (λ o. ordering_then o (slice_cmp nat_cmp s (s ++ a ∷ []))) (tied_itself nat_cmp_total c) ∙ longer-below s a

-- a text with one more character behind the last key
pub behind-last : (keys : List Text) (last : Text) (a : ℕ) → Rise keys → (k : ℕ) → k + 1 ≡ length keys → slice_get keys k ≡ Some last → IsText (last ++ a ∷ []) → IsBehind keys (last ++ a ∷ [])
behind-last keys last a rise k end is text = record {
  text = text;
  above = below_all keys (rise-keys keys rise) k end is;
}
  where
    below_all : (keys : List Text) → KeysSorted keys → (k : ℕ) → k + 1 ≡ length keys → slice_get keys k ≡ Some last → All (λ key. Below key (last ++ a ∷ [])) keys
    below_all [] h k end is = absurd (none_some is)
    below_all (x ∷ xs) h zero end is = All-cons (λ key. Below key (last ++ a ∷ [])) x xs (subst (λ t. Below t (last ++ a ∷ [])) (sym (some_same is)) (longer-below last a)) (none xs (omega (arith, end)))
      where
        none : (ys : List Text) → length ys ≡ 0 → All (λ key. Below key (last ++ a ∷ [])) ys
        none [] e = All-nil _
        none (y ∷ ys) e = absurd (omega (arith, e))
    below_all (x ∷ xs) h (suc k) end is =
        All-cons (λ key. Below key (last ++ a ∷ [])) x xs
        (below-further x last (last ++ a ∷ []) (All-slice_get (Below x) xs k last h.0 is) (longer-below last a))
        (below_all xs h.1 k (omega (arith, end)) is)

pub behind-none : (key : Text) → IsText key → IsBehind [] key
behind-none key text = record { text = text; above = All-nil _ }

-- keys with one behind them
pub push-ordered : (keys : List Text) (key : Text) → AreInOrder keys → IsBehind keys key → AreInOrder (keys ++ key ∷ [])
push-ordered keys key ordered behind = record {
  texts = All-push IsText keys key ordered.texts behind.text;
  rise = keys-rise (keys ++ key ∷ []) (Sorted-push (λ k. k) keys key (rise-keys keys ordered.rise) behind.above);
}

pub no-keys : AreInOrder []
no-keys = record { texts = All-nil IsText; rise = keys-rise [] tt }
