-- Distances that are noted, one behind the other.
use Rattle.std.proofs.Common.{◌≡◌, ◌≢◌, ℕ, zero, suc, ◌+◌, ◌<◌, ◌⊎◌, inl, inr, List, [], ◌∷◌, ◌++◌, length, get_or, set, take, replicate, refl, sym, ap, subst, ◌∙◌, arith, Option, None, Some, length-append}
use Rattle.std.specs.List.{Contains}
use Rattle.std.specs.Option.{is_some}
use Rattle.std.proofs.lemmas.Bool.{false≢true}
use Rattle.std.proofs.lemmas.Bool.Decides.{eqb_tells}
use Rattle.std.proofs.Math.Dec.{eqb}
use Rattle.std.specs.Prelude.{true, false}
use Rattle.std.proofs.lemmas.List.{get_or-set_other, length-set, get_or-replicate, length-replicate}
use Rattle.std.proofs.lemmas.Grind.{get_or-set_at}
use Rattle.std.proofs.lemmas.List.Elements.{Contains-push, Contains-append_left, Contains-push_cases}
use Rattle.graphs.specs.inner.Searching.{AreNoted, IsBefore, unknown}
use Rattle.graphs.proofs.Rows.{take-more}

abbrev pub Away : Type 0
Away = List (Option ℕ)

abbrev pub at : Away → ℕ → Option ℕ
at away i = get_or away i None

pub none-some : {X : Type 0} {x : X} → None ≡ Some x → ⊥
none-some h = false≢true (ap is_some h)

abbrev value : Option ℕ → ℕ
value None = 0
value (Some n) = n

pub some-same : {a b : ℕ} → Some a ≡ Some b → a ≡ b
some-same h = ap value h

pub same_or_not : (m n : ℕ) → (m ≡ n) ⊎ (m ≢ n)
same_or_not m n = by (eqb_tells m n)
  where
    by : ((eqb m n ≡ true) × (m ≡ n)) ⊎ ((eqb m n ≡ false) × (m ≢ n)) → (m ≡ n) ⊎ (m ≢ n)
    by (inl h) = inl h.1
    by (inr h) = inr h.1

-- what has a distance is one of the numbers
pub has_place : (away : Away) (i d : ℕ) → at away i ≡ Some d → i < length away
has_place [] i d h = absurd (none-some h)
has_place (o ∷ away) zero d h = omega arith
has_place (o ∷ away) (suc i) d h = let lt = has_place away i d h in omega (arith, lt)

unknown-set : (away : Away) (n d : ℕ) → n < length away → at away n ≡ None → unknown (set away n (Some d)) + 1 ≡ unknown away
unknown-set [] n d lt h = absurd (omega (arith, lt))
unknown-set (None ∷ away) zero d lt h = omega arith
unknown-set (Some e ∷ away) zero d lt h = absurd (none-some (sym h))
unknown-set (None ∷ away) (suc n) d lt h = let e = unknown-set away n d (omega (arith, lt)) h in omega (arith, e)
unknown-set (Some e ∷ away) (suc n) d lt h = unknown-set away n d (omega (arith, lt)) h

unknown-replicate : (n : ℕ) → unknown (replicate n None) ≡ n
unknown-replicate zero = refl
unknown-replicate (suc n) = ap suc (unknown-replicate n)

pub unchanged : (P : ℕ → Type 0) (level : ℕ) (away : Away) (found : List ℕ) → ((i : ℕ) → i < length away → P i → (d : ℕ) × (at away i ≡ Some d)) → AreNoted P level away found away found
unchanged P level away found all = record {
  long = refl;
  keeps = λ i d h. h;
  only = λ i d h. inl h;
  all = all;
  stay = λ i c. c;
  known = λ i c. inl c;
  counted = refl;
}

module _ (away : Away) (found : List ℕ) (n level : ℕ) (lt : n < length away) (h : at away n ≡ None) where
  here : (i : ℕ) → i ≡ n → at (set away n (Some level)) i ≡ Some level
  here i e = get_or-set_at away n i (Some level) None e lt

  other : (i : ℕ) → i ≢ n → at (set away n (Some level)) i ≡ at away i
  other i e = get_or-set_other away n i (Some level) None e

  keeps : (i d : ℕ) → at away i ≡ Some d → at (set away n (Some level)) i ≡ Some d
  keeps i d k = by (same_or_not i n)
    where
      by : (i ≡ n) ⊎ (i ≢ n) → at (set away n (Some level)) i ≡ Some d
      by (inl e) = absurd (none-some (sym h ∙ ap (at away) (sym e) ∙ k))
      by (inr e) = other i e ∙ k

  only : (i d : ℕ) → at (set away n (Some level)) i ≡ Some d → (at away i ≡ Some d) ⊎ ((d ≡ level) × (i ≡ n) × Contains (found ++ n ∷ []) i)
  only i d k = by (same_or_not i n)
    where
      by : (i ≡ n) ⊎ (i ≢ n) → (at away i ≡ Some d) ⊎ ((d ≡ level) × (i ≡ n) × Contains (found ++ n ∷ []) i)
      by (inl e) = inr (some-same (sym k ∙ here i e), e, subst (Contains (found ++ n ∷ [])) (sym e) (Contains-push found n))
      by (inr e) = inl (sym (other i e) ∙ k)

  known : (i : ℕ) → Contains (found ++ n ∷ []) i → Contains found i ⊎ (at (set away n (Some level)) i ≡ Some level)
  known i c = by (Contains-push_cases found n i c)
    where
      by : Contains found i ⊎ (n ≡ i) → Contains found i ⊎ (at (set away n (Some level)) i ≡ Some level)
      by (inl c) = inl c
      by (inr e) = inr (here i (sym e))

  one-noted : AreNoted (λ i. i ≡ n) level away found (set away n (Some level)) (found ++ n ∷ [])
  one-noted = record {
    long = length-set away n (Some level);
    keeps = keeps;
    only = only;
    all = λ i l e. (level, here i e);
    stay = λ i c. Contains-append_left found (n ∷ []) i c;
    known = known;
    counted = let e = unknown-set away n level lt h in let l = length-append found (n ∷ []) in omega (arith, e, l);
  }

pub one-is-noted : (away : Away) (found more : List ℕ) (n level : ℕ) → n < length away → at away n ≡ None → more ≡ found ++ n ∷ [] → AreNoted (λ i. i ≡ n) level away found (set away n (Some level)) more
one-is-noted away found more n level lt h e = subst (AreNoted (λ i. i ≡ n) level away found (set away n (Some level))) (sym e) (one-noted away found n level lt h)

module _ (P Q : ℕ → Type 0) (level : ℕ) (a b c : Away) (f g h : List ℕ) (first : AreNoted P level a f b g) (second : AreNoted Q level b g c h) where
  both-only : (i d : ℕ) → at c i ≡ Some d → (at a i ≡ Some d) ⊎ ((d ≡ level) × (P i ⊎ Q i) × Contains h i)
  both-only i d k = by (second.only i d k)
    where
      before : (at a i ≡ Some d) ⊎ ((d ≡ level) × P i × Contains g i) → (at a i ≡ Some d) ⊎ ((d ≡ level) × (P i ⊎ Q i) × Contains h i)
      before (inl k) = inl k
      before (inr (l, p, m)) = inr (l, inl p, second.stay i m)

      by : (at b i ≡ Some d) ⊎ ((d ≡ level) × Q i × Contains h i) → (at a i ≡ Some d) ⊎ ((d ≡ level) × (P i ⊎ Q i) × Contains h i)
      by (inl k) = before (first.only i d k)
      by (inr (l, q, m)) = inr (l, inr q, m)

  both-all : (i : ℕ) → i < length a → P i ⊎ Q i → (d : ℕ) × (at c i ≡ Some d)
  both-all i lt (inl p) = let found = first.all i lt p in (found.0, second.keeps i found.0 found.1)
  both-all i lt (inr q) = second.all i (subst (λ n. i < n) (sym first.long) lt) q

  both-known : (i : ℕ) → Contains h i → Contains f i ⊎ (at c i ≡ Some level)
  both-known i m = by (second.known i m)
    where
      before : Contains f i ⊎ (at b i ≡ Some level) → Contains f i ⊎ (at c i ≡ Some level)
      before (inl m) = inl m
      before (inr k) = inr (second.keeps i level k)

      by : Contains g i ⊎ (at c i ≡ Some level) → Contains f i ⊎ (at c i ≡ Some level)
      by (inl m) = before (first.known i m)
      by (inr k) = inr k

  both-noted : AreNoted (λ i. P i ⊎ Q i) level a f c h
  both-noted = record {
    long = second.long ∙ first.long;
    keeps = λ i d k. second.keeps i d (first.keeps i d k);
    only = both-only;
    all = both-all;
    stay = λ i m. second.stay i (first.stay i m);
    known = both-known;
    counted = second.counted ∙ first.counted;
  }

noted-as : (P Q : ℕ → Type 0) (level : ℕ) (a b : Away) (f g : List ℕ) → ((i : ℕ) → P i → Q i) → ((i : ℕ) → Q i → P i) → AreNoted P level a f b g → AreNoted Q level a f b g
noted-as P Q level a b f g to from n = record {
  long = n.long;
  keeps = n.keeps;
  only = λ i d k. by i d (n.only i d k);
  all = λ i lt q. n.all i lt (from i q);
  stay = n.stay;
  known = n.known;
  counted = n.counted;
}
  where
    by : (i d : ℕ) → (at a i ≡ Some d) ⊎ ((d ≡ level) × P i × Contains g i) → (at a i ≡ Some d) ⊎ ((d ≡ level) × Q i × Contains g i)
    by i d (inl k) = inl k
    by i d (inr (l, p, m)) = inr (l, to i p, m)

-- a loop that notes more, member by member of a list: R j are the numbers that it notes for j
pub noted-more : (S : List ℕ → ℕ → Type 0) (R : ℕ → Type 0) (level : ℕ) (xs : List ℕ) (i x : ℕ) (a b c : Away) (f g h : List ℕ) → i < length xs → x ≡ get_or xs i x
    → ((v : ℕ) → S (take i xs ++ x ∷ []) v → S (take i xs) v ⊎ R v) → ((v : ℕ) → S (take i xs) v ⊎ R v → S (take i xs ++ x ∷ []) v)
    → AreNoted (S (take i xs)) level a f b g → AreNoted R level b g c h → AreNoted (S (take (i + 1) xs)) level a f c h
noted-more S R level xs i x a b c f g h lt is from to before next =
    subst (λ ys. AreNoted (S ys) level a f c h) (sym (take-more xs i x lt is))
    (noted-as (λ v. S (take i xs) v ⊎ R v) (S (take i xs ++ x ∷ [])) level a c f h to from (both-noted (S (take i xs)) R level a b c f g h before next))

pub nothing-noted : (S : List ℕ → ℕ → Type 0) (level : ℕ) (away : Away) (found : List ℕ) → ((v : ℕ) → S [] v → ⊥) → AreNoted (S []) level away found away found
nothing-noted S level away found none = unchanged (S []) level away found (λ i lt s. absurd (none i s))

pub none-among : {X : Type 0} (v : X) → Contains [] v → ⊥
none-among v (k, lt, is) = omega (arith, lt)

-- among a list and one member more
pub among-from : (xs : List ℕ) (x v : ℕ) → Contains (xs ++ x ∷ []) v → Contains xs v ⊎ (v ≡ x)
among-from xs x v m = by (Contains-push_cases xs x v m)
  where
    by : Contains xs v ⊎ (x ≡ v) → Contains xs v ⊎ (v ≡ x)
    by (inl m) = inl m
    by (inr e) = inr (sym e)

pub among-to : (xs : List ℕ) (x v : ℕ) → Contains xs v ⊎ (v ≡ x) → Contains (xs ++ x ∷ []) v
among-to xs x v (inl m) = Contains-append_left xs (x ∷ []) v m
among-to xs x v (inr e) = subst (Contains (xs ++ x ∷ [])) (sym e) (Contains-push xs x)

-- ---- the first level

abbrev none_of : (X : Type 0) → Option X
none_of X = None

pub first-set : (n t i d : ℕ) → t < n → at (set (replicate n None) t (Some 0)) i ≡ Some d → (i ≡ t) × (d ≡ 0)
first-set n t i d lt k = by (same_or_not i t)
  where
    long : t < length (replicate n (none_of ℕ))
    long = subst (λ m. t < m) (sym (length-replicate n None)) lt

    placed : i < n
    placed = subst (λ m. i < m) (length-set (replicate n None) t (Some 0) ∙ length-replicate n None) (has_place (set (replicate n None) t (Some 0)) i d k)

    by : (i ≡ t) ⊎ (i ≢ t) → (i ≡ t) × (d ≡ 0)
    by (inl e) = (e, some-same (sym k ∙ get_or-set_at (replicate n None) t i (Some 0) None e long))
    by (inr e) = absurd (none-some (sym (get_or-replicate n i None None placed) ∙ sym (get_or-set_other (replicate n None) t i (Some 0) None e) ∙ k))

pub first-at : (n t : ℕ) → t < n → at (set (replicate n None) t (Some 0)) t ≡ Some 0
first-at n t lt = get_or-set_at (replicate n None) t t (Some 0) None refl (subst (λ m. t < m) (sym (length-replicate n None)) lt)

pub first-unknown : (n t : ℕ) → t < n → unknown (set (replicate n None) t (Some 0)) + 1 ≡ n
first-unknown n t lt = unknown-set (replicate n None) t 0 (subst (λ m. t < m) (sym (length-replicate n None)) lt) (get_or-replicate n t None None lt) ∙ unknown-replicate n

-- ---- what is before an edge

pub none-before : (back : List (List ℕ)) (v : ℕ) → IsBefore back [] v → ⊥
none-before back v (j, on, m) = none-among j on

pub before-from : (back : List (List ℕ)) (edge : List ℕ) (x v : ℕ) → IsBefore back (edge ++ x ∷ []) v → IsBefore back edge v ⊎ Contains (get_or back x []) v
before-from back edge x v (j, on, m) = by (among-from edge x j on)
  where
    by : Contains edge j ⊎ (j ≡ x) → IsBefore back edge v ⊎ Contains (get_or back x []) v
    by (inl on) = inl (j, on, m)
    by (inr e) = inr (subst (λ k. Contains (get_or back k []) v) e m)

pub before-to : (back : List (List ℕ)) (edge : List ℕ) (x v : ℕ) → IsBefore back edge v ⊎ Contains (get_or back x []) v → IsBefore back (edge ++ x ∷ []) v
before-to back edge x v (inl (j, on, m)) = (j, among-to edge x j (inl on), m)
before-to back edge x v (inr m) = (x, among-to edge x x (inr refl), m)
