-- The first entry with a key: what a look-up, a store and one entry more make of it.
use Rattle.std.proofs.Common.{◌≡◌, ◌+◌, ◌<◌, ◌≤◌, ℕ, zero, suc, Bool, true, false, cond, not, List, [], ◌∷◌, ◌++◌, Option, Some, None, length, get_or, refl, sym, ap, ◌∙◌, arith}
use Rattle.std.specs.Prelude.{nat_lt, slice_set, if◌then◌else◌}
use Rattle.std.specs.List.{position, position_or_len}
use Rattle.std.specs.Option.{option_or}
use Rattle.std.proofs.lemmas.Bool.{le-ltb, lt-ltb, ltb-false, ltb-true}
use Rattle.std.proofs.lemmas.List.{length-set}
use Rattle.std.proofs.lemmas.List.Folds.{position_or_len-set}
use Rattle.std.proofs.lemmas.List.Quantifiers.{position-Some}
use Rattle.std.proofs.lemmas.List.Sums.{fails_before_first}
use Rattle.std.proofs.lemmas.Option.{none-some}
use Rattle.bal_base.specs.declared.text.Text.{Text}
use Rattle.type_model.specs.Places.{is_same_text}
use Rattle.value_model.specs.declared.value.Value.{Value}
use Rattle.value_model.specs.Heap.{entry_at}
use Rattle.op_model.specs.Stores.{set_entry}

-- ---- the first place at which a test passes

lt-suc : (a b : ℕ) → nat_lt (1 + a) (suc b) ≡ nat_lt a b
lt-suc a b = by (nat_lt a b) refl
  where
    by : (c : Bool) → nat_lt a b ≡ c → nat_lt (1 + a) (suc b) ≡ c
    by true e = let l = ltb-true a b e in let m : 1 + a < suc b = omega (arith, l) in lt-ltb (1 + a) (suc b) m
    by false e = let l = ltb-false a b e in let m : suc b ≤ 1 + a = omega (arith, l) in le-ltb (1 + a) (suc b) m

abbrev one-more : Option ℕ → Option ℕ
one-more (Some n) = Some (1 + n)
one-more None = None

one-more-if : (b : Bool) (n : ℕ) → cond b (Some (1 + n)) None ≡ one-more (cond b (Some n) None)
one-more-if true n = refl
one-more-if false n = refl

one-more-or : (o : Option ℕ) (b : Bool) (n : ℕ) → one-more (option_or o (cond b (Some n) None)) ≡ option_or (one-more o) (cond b (Some (suc n)) None)
one-more-or (Some m) b n = refl
one-more-or None true n = let e : 1 + n ≡ suc n = omega arith in ap (λ k. Some k) e
one-more-or None false n = refl

module _ {X : Type 0} (p : X → Bool) where
  pub position_past : (xs : List X) → position p xs ≡ None → length xs ≤ position_or_len p xs
  position_past xs h = by (nat_lt (position_or_len p xs) (length xs)) refl h
    where
      by : (b : Bool) → nat_lt (position_or_len p xs) (length xs) ≡ b → cond b (Some (position_or_len p xs)) None ≡ None → length xs ≤ position_or_len p xs
      by true e h = absurd (none-some (position_or_len p xs) (sym h))
      by false e h = ltb-false (position_or_len p xs) (length xs) e

  position-cons : (x : X) (xs : List X) → position p (x ∷ xs) ≡ cond (p x) (Some 0) (one-more (position p xs))
  position-cons x xs = by (p x)
    where
      by : (b : Bool) → cond (nat_lt (cond (not b) (1 + position_or_len p xs) 0) (suc (length xs))) (Some (cond (not b) (1 + position_or_len p xs) 0)) None ≡ cond b (Some 0) (one-more (position p xs))
      by true = let l : 0 < suc (length xs) = omega arith in ap (λ b. cond b (Some 0) None) (lt-ltb 0 (suc (length xs)) l)
      by false = ap (λ b. cond b (Some (1 + position_or_len p xs)) None) (lt-suc (position_or_len p xs) (length xs)) ∙ one-more-if (nat_lt (position_or_len p xs) (length xs)) (position_or_len p xs)

  -- one member more, behind the others
  pub position-push : (xs : List X) (y : X) → position p (xs ++ y ∷ []) ≡ option_or (position p xs) (cond (p y) (Some (length xs)) None)
  position-push [] y = position-cons y []
  position-push (x ∷ xs) y =
      position-cons x (xs ++ y ∷ []) ∙ (by (p x) (position-push xs y) ∙ ap (λ o. option_or o (cond (p y) (Some (suc (length xs))) None)) (sym (position-cons x xs)))
    where
      by : (b : Bool) → position p (xs ++ y ∷ []) ≡ option_or (position p xs) (cond (p y) (Some (length xs)) None)
          → cond b (Some 0) (one-more (position p (xs ++ y ∷ []))) ≡ option_or (cond b (Some 0) (one-more (position p xs))) (cond (p y) (Some (suc (length xs))) None)
      by true rest = refl
      by false rest = ap one-more rest ∙ one-more-or (position p xs) (p y) (length xs)

  -- another member of which the test says the same
  pub position-set : (xs : List X) (i : ℕ) (y d : X) → p y ≡ p (get_or xs i d) → position p (slice_set xs i y) ≡ position p xs
  position-set xs i y d e =
      let at = position_or_len-set p xs i y d e in
      let size = length-set xs i y in
      λ k. cond (nat_lt (at k) (size k)) (Some (at k)) None

-- ---- entries

module _ (key : Text) where
  abbrev pub has_key : Text × Value → Bool
  has_key e = is_same_text e.0 key

  entry-here : (e : Text × Value) (es : List (Text × Value)) → has_key e ≡ true → entry_at (e ∷ es) key ≡ Some e.1
  entry-here e es h = ap (λ b. if b then Some e.1 else entry_at es key) h

  entry-behind : (e : Text × Value) (es : List (Text × Value)) → has_key e ≡ false → entry_at (e ∷ es) key ≡ entry_at es key
  entry-behind e es h = ap (λ b. if b then Some e.1 else entry_at es key) h

  entry-first : (es : List (Text × Value)) (i : ℕ) (d : Text × Value) → i < length es → has_key (get_or es i d) ≡ true → ((k : ℕ) → k < i → has_key (get_or es k d) ≡ false) → entry_at es key ≡ Some (get_or es i d).1
  entry-first [] i d l t f = absurd (omega (arith, l))
  entry-first (e ∷ es) zero d l t f = entry-here e es t
  entry-first (e ∷ es) (suc i) d l t f =
      let first : 0 < suc i = omega arith in
      let m : i < length es = omega (arith, l) in
      entry-behind e es (f 0 first) ∙ entry-first es i d m t (λ k b. let c : suc k < suc i = omega (arith, b) in f (suc k) c)

  entry-nowhere : (es : List (Text × Value)) (d : Text × Value) → ((k : ℕ) → k < length es → has_key (get_or es k d) ≡ false) → entry_at es key ≡ None
  entry-nowhere [] d f = refl
  entry-nowhere (e ∷ es) d f =
      let first : 0 < length (e ∷ es) = omega arith in
      entry-behind e es (f 0 first) ∙ entry-nowhere es d (λ k b. let c : suc k < length (e ∷ es) = omega (arith, b) in f (suc k) c)

  pub entry-position : (es : List (Text × Value)) (i : ℕ) (d : Text × Value) → position has_key es ≡ Some i → entry_at es key ≡ Some (get_or es i d).1
  entry-position es i d h = let at = position-Some has_key es i d h in entry-first es i d at.0 at.1 at.2

  no-entry-from : (es : List (Text × Value)) (d : Text × Value) → position has_key es ≡ None → entry_at es key ≡ None
  no-entry-from es d h =
      let all = position_past has_key es h in
      entry-nowhere es d (λ k l. let m : k < position_or_len has_key es = omega (arith, all, l) in fails_before_first has_key es k d m)

  pub entry-no-position : (es : List (Text × Value)) → position has_key es ≡ None → entry_at es key ≡ None
  entry-no-position [] h = refl
  entry-no-position (e ∷ es) h = no-entry-from (e ∷ es) e h

  pub entry-there : (es : List (Text × Value)) (i : ℕ) → position has_key es ≡ Some i → (v : Value) × (entry_at es key ≡ Some v)
  entry-there [] i h = absurd (none-some i h)
  entry-there (e ∷ es) i h = ((get_or (e ∷ es) i e).1, entry-position (e ∷ es) i e h)

-- ---- an entry that is set where its key stands first, and comes last where it stands nowhere

module _ (key : Text) (v : Value) where
  set-here : (e : Text × Value) (es : List (Text × Value)) → has_key key e ≡ true → (e.0, v) ∷ es ≡ set_entry (e ∷ es) key v
  set-here e es h = sym (ap (λ b. if b then (e.0, v) ∷ es else e ∷ set_entry es key v) h)

  set-behind : (e : Text × Value) (es : List (Text × Value)) → has_key key e ≡ false → e ∷ set_entry es key v ≡ set_entry (e ∷ es) key v
  set-behind e es h = sym (ap (λ b. if b then (e.0, v) ∷ es else e ∷ set_entry es key v) h)

  set-at : (es : List (Text × Value)) (i : ℕ) (d : Text × Value) → i < length es → has_key key (get_or es i d) ≡ true → ((k : ℕ) → k < i → has_key key (get_or es k d) ≡ false) → slice_set es i ((get_or es i d).0, v) ≡ set_entry es key v
  set-at [] i d l t f = absurd (omega (arith, l))
  set-at (e ∷ es) zero d l t f = set-here e es t
  set-at (e ∷ es) (suc i) d l t f =
      let first : 0 < suc i = omega arith in
      let m : i < length es = omega (arith, l) in
      ap (λ xs. e ∷ xs) (set-at es i d m t (λ k b. let c : suc k < suc i = omega (arith, b) in f (suc k) c)) ∙ set-behind e es (f 0 first)

  set-past : (es : List (Text × Value)) (d : Text × Value) → ((k : ℕ) → k < length es → has_key key (get_or es k d) ≡ false) → es ++ (key, v) ∷ [] ≡ set_entry es key v
  set-past [] d f = refl
  set-past (e ∷ es) d f =
      let first : 0 < length (e ∷ es) = omega arith in
      ap (λ xs. e ∷ xs) (set-past es d (λ k b. let c : suc k < length (e ∷ es) = omega (arith, b) in f (suc k) c)) ∙ set-behind e es (f 0 first)

  pub set-position : (es : List (Text × Value)) (i : ℕ) (d : Text × Value) → position (has_key key) es ≡ Some i → slice_set es i ((get_or es i d).0, v) ≡ set_entry es key v
  set-position es i d h = let at = position-Some (has_key key) es i d h in set-at es i d at.0 at.1 at.2

  pub set-no-position : (es : List (Text × Value)) → position (has_key key) es ≡ None → es ++ (key, v) ∷ [] ≡ set_entry es key v
  set-no-position es h =
      let all = position_past (has_key key) es h in
      set-past es (key, v) (λ k l. let m : k < position_or_len (has_key key) es = omega (arith, all, l) in fails_before_first (has_key key) es k (key, v) m)
