-- Ways from strand to strand, and the ring into which one leads.
use Rattle.std.proofs.Common.{Bool, cond, ltb, ◌≡◌, ◌≢◌, ◌<◌, ◌≤◌, ℕ, suc, true, false, List, [], ◌∷◌, ◌++◌, Option, Some, None, take, drop, get_or, length, refl, sym, subst, ap, arith, ◌∙◌}
use Rattle.std.specs.Prelude.{AllPairs, IsSomeAnd, position}
use Rattle.std.proofs.Math.Seq.{drop-cons}
use Rattle.std.specs.List.{position_or_len}
use Rattle.std.proofs.lemmas.Bool.{eq-eqb, eqb-true, ltb-false}
use Rattle.std.proofs.lemmas.List.{take-append-drop}
use Rattle.std.proofs.lemmas.List.Quantifiers.{all_pairs_push, position-Some}
use Rattle.std.proofs.lemmas.List.Sums.{fails_before_first}
use Rattle.op_model.specs.Common.{Common}
use Rattle.machine_model.specs.Outcomes.{IsRing, Leads, awaited}
use Rattle.plain_run.proofs.Looking.{get-past, get-there}
use Rattle.code_steps.specs.Rings.{IsWay, is_number}

-- ---- what holds of what an option has

some-with : {A : Type 0} (P Q : A → Type 0) → ((a : A) → P a → Q a) → (o : Option A) → IsSomeAnd o P → IsSomeAnd o Q
some-with P Q f (Some a) h = f a h
some-with P Q f None h = absurd h

some-both : {A : Type 0} (P Q : A → Type 0) → ((a : A) → P a → Q a → ⊥) → (o : Option A) → IsSomeAnd o P → IsSomeAnd o Q → ⊥
some-both P Q f (Some a) h k = f a h k
some-both P Q f None h k = h

some-not : {A : Type 0} (P : A → Type 0) (o : Option A) → o ≡ None → IsSomeAnd o P → ⊥
some-not P o e h = subst (λ x. IsSomeAnd x P) e h

-- ---- ways

module _ (next : ℕ → Option ℕ) where
  leads-more : (n : ℕ) (way : List ℕ) (m k : ℕ) → Leads next n way m → next m ≡ Some k → Leads next n (way ++ m ∷ []) k
  leads-more n [] m k h e = (sym h, subst (λ o. IsSomeAnd o (λ j. j ≡ k)) (sym (ap next h ∙ e)) refl)
  leads-more n (x ∷ way) m k (is, h) e = (is, some-with (λ j. Leads next j way m) (λ j. Leads next j (way ++ m ∷ []) k) (λ j l. leads-more j way m k l e) (next n) h)

  abbrev Split : ℕ → List ℕ → List ℕ → ℕ → Type 0
  Split n front back m = (k : ℕ) × Leads next n front k × Leads next k back m

  split-some : (front back : List ℕ) (x n m : ℕ) → x ≡ n → ((j : ℕ) → Leads next j (front ++ back) m → Split j front back m) → (o : Option ℕ) → next n ≡ o → IsSomeAnd o (λ j. Leads next j (front ++ back) m) → Split n (x ∷ front) back m
  split-some front back x n m is f (Some j) e h =
      let s = f j h in
      (s.0, (is, subst (λ o. IsSomeAnd o (λ i. Leads next i front s.0)) (sym e) s.1), s.2)
  split-some front back x n m is f None e h = absurd h

  leads-split : (n : ℕ) (front back : List ℕ) (m : ℕ) → Leads next n (front ++ back) m → Split n front back m
  leads-split n [] back m h = (n, refl, h)
  leads-split n (x ∷ front) back m (is, h) = split-some front back x n m is (λ j l. leads-split j front back m l) (next n) refl h

  -- a way that ends leads into no ring
  no-ring : (m n : ℕ) (path : List ℕ) → Leads next m path n → next n ≡ None → (ring : List ℕ) (first : ℕ) (rest : List ℕ) → Leads next first (first ∷ rest) first → (way : List ℕ) → Leads next m way first → ⊥
  no-ring m n [] p none ring first rest closes [] w = some-not (λ j. Leads next j rest first) (next first) (ap next (sym w ∙ p) ∙ none) closes.1
  no-ring m n [] p none ring first rest closes (y ∷ way) w = some-not (λ j. Leads next j way first) (next m) (ap next p ∙ none) w.1
  no-ring m n (x ∷ path) p none ring first rest closes [] w =
      some-both (λ j. Leads next j path n) (λ j. Leads next j rest first) (λ j l k. no-ring j n path l none ring first rest closes rest k) (next m) p.1
      (subst (λ i. IsSomeAnd (next i) (λ j. Leads next j rest first)) (sym w) closes.1)
  no-ring m n (x ∷ path) p none ring first rest closes (y ∷ way) w =
      some-both (λ j. Leads next j path n) (λ j. Leads next j way first) (λ j l k. no-ring j n path l none ring first rest closes way k) (next m) p.1 w.1

-- ---- the numbers on the way

not-found : (b : Bool) (k : ℕ) → cond b (Some k) None ≡ None → b ≡ false
not-found true k h = cc
not-found false k h = refl

position-none : {X : Type 0} (p : X → Bool) (xs : List X) → position p xs ≡ None → length xs ≤ position_or_len p xs
position-none p xs h =
    ltb-false (position_or_len p xs) (length xs) (not-found (ltb (position_or_len p xs) (length xs)) (position_or_len p xs) h)

other : (n : ℕ) (ms : List ℕ) → position (is_number n) ms ≡ None → (k d : ℕ) → k < length ms → get_or ms k d ≢ n
other n ms e k d l is =
    let long : length ms ≤ position_or_len (is_number n) ms = position-none (is_number n) ms e in
    let differs = fails_before_first (is_number n) ms k d (omega (arith, long, l)) in
    false-true (sym differs ∙ eq-eqb (get_or ms k d) n is)
  where
    false-true : false ≡ true → ⊥
    false-true h = cc

pub way-begins : (c : Common) → IsWay c [] 0
way-begins c = (refl, λ i j d lt within. absurd (none j within))
  where
    none : (j : ℕ) → j < 0 → ⊥
    none j l = omega (arith, l)

module _ (c : Common) (way : List ℕ) (n : ℕ) (w : IsWay c way n) where
  pub way-more : (k : ℕ) → position (is_number n) way ≡ None → awaited c n ≡ Some k → IsWay c (way ++ n ∷ []) k
  way-more k none e = (leads-more (awaited c) 0 way n k w.0 e, all_pairs_push (λ x y. x ≢ y) way n w.1 (other n way none))

  pub way-stops : awaited c n ≡ None → (ring : List ℕ) → ¬ (IsRing c ring)
  way-stops none ring r =
      no-ring (awaited c) 0 n way w.0 none ring r.first r.rest (subst (λ l. Leads (awaited c) r.first l r.first) r.some r.closes) r.way r.leads

  pub way-returns : (place : ℕ) → position (is_number n) way ≡ Some place → IsRing c (drop place way)
  way-returns place e =
      let found = position-Some (is_number n) way place n e in
      let here : get_or way place n ≡ n = eqb-true (get_or way place n) n found.1 in
      let ring : drop place way ≡ n ∷ drop (suc place) way = drop-cons way place n found.0 ∙ ap (λ x. x ∷ drop (suc place) way) here in
      let split = leads-split (awaited c) 0 (take place way) (drop place way) n (subst (λ l. Leads (awaited c) 0 l n) (sym (take-append-drop place way)) w.0) in
      let at : n ≡ split.0 = (subst (λ l. Leads (awaited c) split.0 l n) ring split.2).0 in
      record {
        way = take place way;
        first = n;
        rest = drop (suc place) way;
        some = ring;
        leads = subst (λ k. Leads (awaited c) 0 (take place way) k) (sym at) split.1;
        closes = subst (λ k. Leads (awaited c) k (drop place way) n) (sym at) split.2;
        once = subst (AllPairs (λ x y. x ≢ y)) (sym (take-append-drop place way)) w.1;
      }

pub ruleset ringing = (get-there, get-past)
