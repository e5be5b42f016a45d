-- Which numbers are reached level by level: those to which a walk leads.
use Rattle.std.proofs.Common.{◌≡◌, ◌<◌, ◌≤◌, ◌+◌, ◌++◌, ◌∙◌, ℕ, zero, suc, Bool, true, false, List, [], ◌∷◌, Some, None, inl, inr, flat_map, length, map, refl, sym, ap, subst, arith}
use Rattle.std.proofs.lemmas.Bool.{eqb-true, false≢true}
use Rattle.std.proofs.lemmas.Iterator.Adapters.{position_from-zero}
use Rattle.std.specs.List.{list_any, position_from}
use Rattle.std.specs.Prelude.{◌⊎◌, ◌==◌, ◌||◌, filter, if◌then◌else◌, not, position, slice_get}
use Rattle.op_model.specs.Levels.{distinct, levels}
use Rattle.machine_model.proofs.Once.{some-same}
use Rattle.code_keeping.proofs.Changing.{below-or-not}
use Rattle.code_keeping.proofs.Growing.{front-or-behind, get-behind, get-front}
use Rattle.code_keeping_fillers.proofs.Walks.{IsAmong, Leads, leads-on}

-- ---- members of lists

pub among-front : {A : Type 0} (xs ys : List A) (x : A) → IsAmong xs x → IsAmong (xs ++ ys) x
among-front xs ys x (k, e) = (k, get-front xs ys k x e)

pub among-behind : {A : Type 0} (xs ys : List A) (x : A) → IsAmong ys x → IsAmong (xs ++ ys) x
among-behind xs ys x (k, e) = (length xs + k, get-behind xs ys k x e)

pub among-either : {A : Type 0} (xs ys : List A) (x : A) → IsAmong (xs ++ ys) x → IsAmong xs x ⊎ IsAmong ys x
among-either xs ys x (k, e) = by (front-or-behind xs ys k x e)
  where
    by : (slice_get xs k ≡ Some x) ⊎ ((m : ℕ) × (k ≡ length xs + m) × (slice_get ys m ≡ Some x)) → IsAmong xs x ⊎ IsAmong ys x
    by (inl is) = inl (k, is)
    by (inr (m, at, is)) = inr (m, is)

among-rest : {A : Type 0} (y : A) (xs : List A) (x : A) → IsAmong xs x → IsAmong (y ∷ xs) x
among-rest y xs x (k, e) = (suc k, e)

among-split : {A : Type 0} (y : A) (xs : List A) (x : A) → IsAmong (y ∷ xs) x → (y ≡ x) ⊎ IsAmong xs x
among-split y xs x (zero, e) = inl (some-same y x e)
among-split y xs x (suc k, e) = inr (k, e)

among-filter : {A : Type 0} (p : A → Bool) (xs : List A) (x : A) → p x ≡ true → IsAmong xs x → IsAmong (filter p xs) x
among-filter p [] x e (k, at) = absurd (let q : ⊥ = cc in q)
among-filter p (y ∷ xs) x e among = by (p y) refl (among-split y xs x among) (λ h. among-filter p xs x e h)
  where
    by : (b : Bool) → p y ≡ b → (y ≡ x) ⊎ IsAmong xs x → (IsAmong xs x → IsAmong (filter p xs) x) → IsAmong (if b then y ∷ filter p xs else filter p xs) x
    by true is (inl same) more = (0, ap (λ z. Some z) same)
    by true is (inr h) more = among-rest y (filter p xs) x (more h)
    by false is (inl same) more = absurd (false≢true (let k : p x ≡ false = subst (λ z. p z ≡ false) same is in (let q : false ≡ true = cc in q)))
    by false is (inr h) more = more h

of-filter : {A : Type 0} (p : A → Bool) (xs : List A) (x : A) → IsAmong (filter p xs) x → IsAmong xs x
of-filter p [] x (k, at) = absurd (let q : ⊥ = cc in q)
of-filter p (y ∷ xs) x among = by (p y) among (λ h. of-filter p xs x h)
  where
    by : (b : Bool) → IsAmong (if b then y ∷ filter p xs else filter p xs) x → (IsAmong (filter p xs) x → IsAmong xs x) → IsAmong (y ∷ xs) x
    by true among more = on (among-split y (filter p xs) x among)
      where
        on : (y ≡ x) ⊎ IsAmong (filter p xs) x → IsAmong (y ∷ xs) x
        on (inl same) = (0, ap (λ z. Some z) same)
        on (inr h) = among-rest y xs x (more h)
    by false among more = among-rest y xs x (more among)

among-distinct : (xs : List ℕ) (x : ℕ) → IsAmong xs x → IsAmong (distinct xs) x
among-distinct [] x (k, at) = absurd (let q : ⊥ = cc in q)
among-distinct (y ∷ xs) x among = by (x == y) refl (among-split y xs x among) (λ h. among-distinct xs x h)
  where
    by : (b : Bool) → (x == y) ≡ b → (y ≡ x) ⊎ IsAmong xs x → (IsAmong xs x → IsAmong (distinct xs) x) → IsAmong (distinct (y ∷ xs)) x
    by b is (inl same) more = (0, ap (λ z. Some z) same)
    by true is (inr h) more = (0, ap (λ z. Some z) (sym (eqb-true x y is)))
    by false is (inr h) more = among-rest y (filter (λ z. not (z == y)) (distinct xs)) x (among-filter (λ z. not (z == y)) (distinct xs) x (ap not is) (more h))

of-distinct : (xs : List ℕ) (x : ℕ) → IsAmong (distinct xs) x → IsAmong xs x
of-distinct [] x h = h
of-distinct (y ∷ xs) x among = by (among-split y (filter (λ z. not (z == y)) (distinct xs)) x among) (λ h. of-distinct xs x h)
  where
    by : (y ≡ x) ⊎ IsAmong (filter (λ z. not (z == y)) (distinct xs)) x → (IsAmong (distinct xs) x → IsAmong xs x) → IsAmong (y ∷ xs) x
    by (inl same) more = (0, ap (λ z. Some z) same)
    by (inr h) more = among-rest y xs x (more (of-filter (λ z. not (z == y)) (distinct xs) x h))

among-flat : (f : ℕ → List ℕ) (xs : List ℕ) (x y : ℕ) → IsAmong xs x → IsAmong (f x) y → IsAmong (flat_map f xs) y
among-flat f [] x y (k, at) h = absurd (let q : ⊥ = cc in q)
among-flat f (z ∷ xs) x y among h = by (among-split z xs x among) (λ k. among-flat f xs x y k h)
  where
    by : (z ≡ x) ⊎ IsAmong xs x → (IsAmong xs x → IsAmong (flat_map f xs) y) → IsAmong (f z ++ flat_map f xs) y
    by (inl same) more = among-front (f z) (flat_map f xs) y (subst (λ k. IsAmong (f k) y) (sym same) h)
    by (inr k) more = among-behind (f z) (flat_map f xs) y (more k)

of-flat : (f : ℕ → List ℕ) (xs : List ℕ) (y : ℕ) → IsAmong (flat_map f xs) y → (x : ℕ) × IsAmong xs x × IsAmong (f x) y
of-flat f [] y (k, at) = absurd (let q : ⊥ = cc in q)
of-flat f (z ∷ xs) y among = by (among-either (f z) (flat_map f xs) y among) (λ h. of-flat f xs y h)
  where
    by : IsAmong (f z) y ⊎ IsAmong (flat_map f xs) y → (IsAmong (flat_map f xs) y → (x : ℕ) × IsAmong xs x × IsAmong (f x) y) → (x : ℕ) × IsAmong (z ∷ xs) x × IsAmong (f x) y
    by (inl h) more = (z, (0, refl), h)
    by (inr h) more = let (x, among, k) = more h in (x, among-rest z xs x among, k)

pub any-among : {A : Type 0} (p : A → Bool) (xs : List A) (x : A) → IsAmong xs x → p x ≡ true → list_any p xs ≡ true
any-among p [] x (k, at) e = absurd (let q : ⊥ = cc in q)
any-among p (y ∷ xs) x among e = by (p y) refl (among-split y xs x among) (λ h. any-among p xs x h e)
  where
    by : (b : Bool) → p y ≡ b → (y ≡ x) ⊎ IsAmong xs x → (IsAmong xs x → list_any p xs ≡ true) → (b || list_any p xs) ≡ true
    by true is h more = refl
    by false is (inl same) more = absurd (false≢true (let k : p x ≡ false = subst (λ z. p z ≡ false) same is in (let q : false ≡ true = cc in q)))
    by false is (inr h) more = more h

from-none : {A : Type 0} (p : A → Bool) (i : ℕ) (xs : List A) (x : A) → IsAmong xs x → p x ≡ true → position_from p i xs ≡ None → ⊥
from-none p i [] x (k, at) e none = let q : ⊥ = cc in q
from-none p i (y ∷ xs) x among e none = by (p y) refl none (among-split y xs x among) (λ h none. from-none p (i + 1) xs x h e none)
  where
    by : (b : Bool) → p y ≡ b → (if b then Some i else position_from p (i + 1) xs) ≡ None → (y ≡ x) ⊎ IsAmong xs x → (IsAmong xs x → position_from p (i + 1) xs ≡ None → ⊥) → ⊥
    by true is none h more = let q : ⊥ = cc in q
    by false is none (inl same) more = false≢true (let k : p x ≡ false = subst (λ z. p z ≡ false) same is in (let q : false ≡ true = cc in q))
    by false is none (inr h) more = more h none

-- what passes has a first place
pub has-position : {A : Type 0} (p : A → Bool) (xs : List A) (x : A) → IsAmong xs x → p x ≡ true → position p xs ≡ None → ⊥
has-position p xs x among e none = from-none p 0 xs x among e (sym (position_from-zero p xs) ∙ none)

pub mapped-get : {A B : Type 0} (f : A → B) (xs : List A) (j : ℕ) (x : A) → slice_get xs j ≡ Some x → slice_get (map f xs) j ≡ Some (f x)
mapped-get f [] j x e = absurd (let q : ⊥ = cc in q)
mapped-get f (y ∷ xs) zero x e = ap (λ z. Some (f z)) (some-same y x e)
mapped-get f (y ∷ xs) (suc j) x e = mapped-get f xs j x e

-- ---- levels

module _ (kids : ℕ → List ℕ) where
  abbrev pub level : List ℕ → ℕ → List ℕ
  level roots k = levels distinct kids roots k

  last-step : (n k m : ℕ) → Leads kids n (suc k) m → (j : ℕ) × Leads kids n k j × IsAmong (kids j) m
  last-step n zero m (j, among, e) = (n, refl, subst (λ x. IsAmong (kids n) x) e among)
  last-step n (suc k) m (j, among, more) = let (i, leads, last) = last-step j k m more in (i, (j, among, leads), last)

  pub last-of : (n k m : ℕ) → Leads kids n (suc k) m → (j : ℕ) × IsAmong (kids j) m
  last-of n k m h = let (j, leads, last) = last-step n k m h in (j, last)

  level-more : (roots : List ℕ) (n m : ℕ) → IsAmong (level roots n) m → IsAmong (level roots (suc n)) m
  level-more roots zero m (k, at) = absurd (let q : ⊥ = cc in q)
  level-more roots (suc n) m among = by (among-either roots (flat_map kids (level roots n)) m (of-distinct (roots ++ flat_map kids (level roots n)) m among)) (λ j h. level-more roots n j h)
    where
      by : IsAmong roots m ⊎ IsAmong (flat_map kids (level roots n)) m → ((j : ℕ) → IsAmong (level roots n) j → IsAmong (level roots (suc n)) j) → IsAmong (distinct (roots ++ flat_map kids (level roots (suc n)))) m
      by (inl h) more = among-distinct (roots ++ flat_map kids (level roots (suc n))) m (among-front roots (flat_map kids (level roots (suc n))) m h)
      by (inr h) more =
          let (j, at, last) = of-flat kids (level roots n) m h in
          among-distinct (roots ++ flat_map kids (level roots (suc n))) m (among-behind roots (flat_map kids (level roots (suc n))) m (among-flat kids (level roots (suc n)) j m (more j at) last))

  pub level-up : (roots : List ℕ) (k n m : ℕ) → k ≤ n → IsAmong (level roots k) m → IsAmong (level roots n) m
  level-up roots k zero m le h = subst (λ i. IsAmong (level roots i) m) (let q : k ≡ 0 = omega (arith, le) in q) h
  level-up roots k (suc n) m le h = by (below-or-not k (suc n)) (λ l. level-up roots k n m l h)
    where
      by : (k < suc n) ⊎ (suc n ≤ k) → (k ≤ n → IsAmong (level roots n) m) → IsAmong (level roots (suc n)) m
      by (inl l) up = level-more roots n m (up (omega (arith, l)))
      by (inr l) up = subst (λ i. IsAmong (level roots i) m) (let q : k ≡ suc n = omega (arith, le, l) in q) h

  -- a walk of so many steps leads into the level behind
  pub walk-level : (roots : List ℕ) (r k m : ℕ) → IsAmong roots r → Leads kids r k m → IsAmong (level roots (suc k)) m
  walk-level roots r zero m among e = among-distinct (roots ++ []) m (among-front roots [] m (subst (IsAmong roots) e among))
  walk-level roots r (suc k) m among h =
      let (j, leads, last) = last-step r k m h in
      among-distinct (roots ++ flat_map kids (level roots (suc k))) m (among-behind roots (flat_map kids (level roots (suc k))) m (among-flat kids (level roots (suc k)) j m (walk-level roots r k j among leads) last))

  -- and all that is there is reached by one
  pub level-walk : (roots : List ℕ) (n m : ℕ) → IsAmong (level roots n) m → (r : ℕ) × (k : ℕ) × IsAmong roots r × Leads kids r k m
  level-walk roots zero m (k, at) = absurd (let q : ⊥ = cc in q)
  level-walk roots (suc n) m among = by (among-either roots (flat_map kids (level roots n)) m (of-distinct (roots ++ flat_map kids (level roots n)) m among)) (λ j h. level-walk roots n j h)
    where
      by : IsAmong roots m ⊎ IsAmong (flat_map kids (level roots n)) m → ((j : ℕ) → IsAmong (level roots n) j → (r : ℕ) × (k : ℕ) × IsAmong roots r × Leads kids r k j) → (r : ℕ) × (k : ℕ) × IsAmong roots r × Leads kids r k m
      by (inl h) more = (m, 0, h, refl)
      by (inr h) more = let (j, at, last) = of-flat kids (level roots n) m h in let (r, k, first, leads) = more j at in (r, suc k, first, leads-on kids r k j m leads last)
