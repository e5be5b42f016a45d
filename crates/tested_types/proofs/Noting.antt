-- Types that are noted, each once.
use Rattle.std.proofs.Common.{◌≡◌, ◌≢◌, ◌∙◌, ◌↔◌, ◌<◌, ◌≤◌, ◌+◌, ◌++◌, ◌⊎◌, ℕ, zero, suc, List, [], ◌∷◌, Some, None, length, get_or, map, take, refl, sym, ap, subst, inl, inr, arith, length-append}
use Rattle.std.specs.Prelude.{◌==◌, All, Any, IsSomeAnd, slice_get}
use Rattle.std.proofs.lemmas.Bool.{cases_Bool, eqb-true, eq-eqb, both_ways}
use Rattle.std.proofs.Math.Seq.{get_or-append_seam}
use Rattle.std.proofs.lemmas.Option.{slice_get_read}
use Rattle.std.proofs.lemmas.List.{get_or_append_left, take_all, take_more}
use Rattle.type_model.specs.declared.basic.SemType.{SemType, Basic, Atom, Or', And', Not'}
use Rattle.type_model.specs.SameType.{IsSameType}
use Rattle.stack_code.specs.Commands.{Command}
use Rattle.tested_types.specs.Asked.{AreOnce, Asks, IsAmong, Notes, type_in}
use Rattle.tested_types.proofs.Listed.{any-append, any-mapped, any-none, any-one, any-parts, any-so, mapped-any, one-any}

-- ---- types that are written alike

pub same-then : (s t u : SemType) → IsSameType s t → IsSameType t u → IsSameType s u
same-then (Basic b) (Basic b') (Basic b'') h k = h ∙ k
same-then (Basic b) (Basic b') (Atom m'') h k = absurd k
same-then (Basic b) (Basic b') (Or' a'' s'' c'' t'') h k = absurd k
same-then (Basic b) (Basic b') (And' a'' s'' c'' t'') h k = absurd k
same-then (Basic b) (Basic b') (Not' a'' t'') h k = absurd k
same-then (Basic b) (Atom m') u h k = absurd h
same-then (Basic b) (Or' a' s' c' t') u h k = absurd h
same-then (Basic b) (And' a' s' c' t') u h k = absurd h
same-then (Basic b) (Not' a' t') u h k = absurd h
same-then (Atom m) (Basic b') u h k = absurd h
same-then (Atom m) (Atom m') (Basic b'') h k = absurd k
same-then (Atom m) (Atom m') (Atom m'') h k = h ∙ k
same-then (Atom m) (Atom m') (Or' a'' s'' c'' t'') h k = absurd k
same-then (Atom m) (Atom m') (And' a'' s'' c'' t'') h k = absurd k
same-then (Atom m) (Atom m') (Not' a'' t'') h k = absurd k
same-then (Atom m) (Or' a' s' c' t') u h k = absurd h
same-then (Atom m) (And' a' s' c' t') u h k = absurd h
same-then (Atom m) (Not' a' t') u h k = absurd h
same-then (Or' a s c t) (Basic b') u h k = absurd h
same-then (Or' a s c t) (Atom m') u h k = absurd h
same-then (Or' a s c t) (Or' a' s' c' t') (Basic b'') h k = absurd k
same-then (Or' a s c t) (Or' a' s' c' t') (Atom m'') h k = absurd k
same-then (Or' a s c t) (Or' a' s' c' t') (Or' a'' s'' c'' t'') h k = (same-then s s' s'' h.0 k.0, same-then t t' t'' h.1 k.1)
same-then (Or' a s c t) (Or' a' s' c' t') (And' a'' s'' c'' t'') h k = absurd k
same-then (Or' a s c t) (Or' a' s' c' t') (Not' a'' t'') h k = absurd k
same-then (Or' a s c t) (And' a' s' c' t') u h k = absurd h
same-then (Or' a s c t) (Not' a' t') u h k = absurd h
same-then (And' a s c t) (Basic b') u h k = absurd h
same-then (And' a s c t) (Atom m') u h k = absurd h
same-then (And' a s c t) (Or' a' s' c' t') u h k = absurd h
same-then (And' a s c t) (And' a' s' c' t') (Basic b'') h k = absurd k
same-then (And' a s c t) (And' a' s' c' t') (Atom m'') h k = absurd k
same-then (And' a s c t) (And' a' s' c' t') (Or' a'' s'' c'' t'') h k = absurd k
same-then (And' a s c t) (And' a' s' c' t') (And' a'' s'' c'' t'') h k = (same-then s s' s'' h.0 k.0, same-then t t' t'' h.1 k.1)
same-then (And' a s c t) (And' a' s' c' t') (Not' a'' t'') h k = absurd k
same-then (And' a s c t) (Not' a' t') u h k = absurd h
same-then (Not' a t) (Basic b') u h k = absurd h
same-then (Not' a t) (Atom m') u h k = absurd h
same-then (Not' a t) (Or' a' s' c' t') u h k = absurd h
same-then (Not' a t) (And' a' s' c' t') u h k = absurd h
same-then (Not' a t) (Not' a' t') (Basic b'') h k = absurd k
same-then (Not' a t) (Not' a' t') (Atom m'') h k = absurd k
same-then (Not' a t) (Not' a' t') (Or' a'' s'' c'' t'') h k = absurd k
same-then (Not' a t) (Not' a' t') (And' a'' s'' c'' t'') h k = absurd k
same-then (Not' a t) (Not' a' t') (Not' a'' t'') h k = same-then t t' t'' h k

pub same-back : (s t : SemType) → IsSameType s t → IsSameType t s
same-back (Basic b) (Basic b') h = sym h
same-back (Basic b) (Atom m') h = absurd h
same-back (Basic b) (Or' a' s' c' t') h = absurd h
same-back (Basic b) (And' a' s' c' t') h = absurd h
same-back (Basic b) (Not' a' t') h = absurd h
same-back (Atom m) (Basic b') h = absurd h
same-back (Atom m) (Atom m') h = sym h
same-back (Atom m) (Or' a' s' c' t') h = absurd h
same-back (Atom m) (And' a' s' c' t') h = absurd h
same-back (Atom m) (Not' a' t') h = absurd h
same-back (Or' a s c t) (Basic b') h = absurd h
same-back (Or' a s c t) (Atom m') h = absurd h
same-back (Or' a s c t) (Or' a' s' c' t') h = (same-back s s' h.0, same-back t t' h.1)
same-back (Or' a s c t) (And' a' s' c' t') h = absurd h
same-back (Or' a s c t) (Not' a' t') h = absurd h
same-back (And' a s c t) (Basic b') h = absurd h
same-back (And' a s c t) (Atom m') h = absurd h
same-back (And' a s c t) (Or' a' s' c' t') h = absurd h
same-back (And' a s c t) (And' a' s' c' t') h = (same-back s s' h.0, same-back t t' h.1)
same-back (And' a s c t) (Not' a' t') h = absurd h
same-back (Not' a t) (Basic b') h = absurd h
same-back (Not' a t) (Atom m') h = absurd h
same-back (Not' a t) (Or' a' s' c' t') h = absurd h
same-back (Not' a t) (And' a' s' c' t') h = absurd h
same-back (Not' a t) (Not' a' t') h = same-back t t' h

-- what stands at a place is one of them
pub at-any : {X : Type 0} (P : X → Type 0) (xs : List X) (k : ℕ) → IsSomeAnd (slice_get xs k) P → Any P xs
at-any P [] k h = absurd h
at-any P (x ∷ xs) zero h = any-append P (x ∷ []) xs (inl (any-one P x h))
at-any P (x ∷ xs) (suc k) h = any-append P (x ∷ []) xs (inr (at-any P xs k h))

pub any-at : {X : Type 0} (P : X → Type 0) (xs : List X) → Any P xs → (k : ℕ) × (x : X) × (slice_get xs k ≡ Some x) × P x
any-at P xs (k, x, lt, is, p) = (k, x, slice_get_read xs (length xs) k x refl lt (sym is), p)

-- ---- types that stand there once

decided : (n k : ℕ) → (n ≡ k) ⊎ (n ≢ k)
decided n k = elim (cases_Bool (n == k)) [ inl e ↦ inl (eqb-true n k e) | inr e ↦ inr (λ is. both_ways (n == k) e (eq-eqb n k is)) ]

pub once-more : (xs : List SemType) (t : SemType) → AreOnce xs → All (λ k. ¬ (IsSameType t k)) xs → AreOnce (xs ++ t ∷ [])
once-more xs t once none i j d lt le =
    elim (which j (omega (arith, le, length-append xs (t ∷ [])))) [
      | inl below ↦ λ e. once i j d lt below (subst (λ x. IsSameType x (get_or xs i d)) (get_or_append_left xs (t ∷ []) d j below) (subst (λ x. IsSameType (get_or (xs ++ t ∷ []) j d) x) (get_or_append_left xs (t ∷ []) d i (omega (arith, lt, below))) e))
      | inr here ↦ λ e. none i d (omega (arith, lt, here))
          (subst (λ x. IsSameType x (get_or xs i d)) (last here) (subst (λ x. IsSameType (get_or (xs ++ t ∷ []) j d) x) (get_or_append_left xs (t ∷ []) d i (omega (arith, lt, here))) e))
    ]
  where
    which : (j : ℕ) → j < length xs + 1 → (j < length xs) ⊎ (j ≡ length xs)
    which j lt = elim (decided j (length xs)) [ inl e ↦ inr e | inr other ↦ inl (omega (arith, lt, other)) ]

    last : j ≡ length xs → get_or (xs ++ t ∷ []) j d ≡ t
    last e = subst (λ n. get_or (xs ++ t ∷ []) n d ≡ t) (sym e) (get_or-append_seam xs t [] d)

-- ---- notes

pub notes-none : (types : List SemType) (Asked : SemType → Type 0) → ((t : SemType) → ¬ (Asked t)) → Notes Asked types types
notes-none types Asked none = record { once = λ o. o; are = λ t. (λ h. inl h, λ h. by t h) }
  where
    by : (t : SemType) → IsAmong types t ⊎ Asked t → IsAmong types t
    by t (inl h) = h
    by t (inr a) = absurd (none t a)

-- a command that asks for nothing
pub no-asks : (c : Command) (types : List SemType) → type_in c ≡ None → Notes (Asks c) types types
no-asks c types e = notes-none types (Asks c) (λ t h. subst (λ o. IsSomeAnd o (IsSameType t)) e h)

-- nothing is asked for
pub notes-nothing : (types : List SemType) → Notes (λ t. ⊥) types types
notes-nothing types = notes-none types (λ t. ⊥) (λ t h. h)

-- a type that stands there
pub notes-there : (types : List SemType) (t : SemType) (place : ℕ) → IsSomeAnd (slice_get types place) (IsSameType t) → Notes (λ u. IsSameType u t) types types
notes-there types t place at = record { once = λ o. o; are = λ u. (λ h. inl h, λ h. by u h) }
  where
    by : (u : SemType) → IsAmong types u ⊎ IsSameType u t → IsAmong types u
    by u (inl h) = h
    by u (inr is) = any-so (IsSameType t) (IsSameType u) types (λ k e. same-then u t k is e) (at-any (IsSameType t) types place at)

-- a copy of one that doesn't is added
pub notes-new : (old news : List SemType) (t copy : SemType) → news ≡ old ++ copy ∷ [] → IsSameType t copy → All (λ s. ¬ (IsSameType t s)) old → Notes (λ u. IsSameType u t) old news
notes-new old news t copy is same none = subst (Notes (λ u. IsSameType u t) old) (sym is) (record { once = λ o. once-more old copy o (λ k d lt e. none k d lt (same-then t copy (get_or old k d) same e)); are = λ u. (to u, from u) })
  where
    to : (u : SemType) → IsAmong (old ++ copy ∷ []) u → IsAmong old u ⊎ IsSameType u t
    to u h = elim (any-parts (IsSameType u) old (copy ∷ []) h) [ inl there ↦ inl there | inr last ↦ inr (same-then u copy t (one-any (IsSameType u) copy last) (same-back t copy same)) ]

    from : (u : SemType) → IsAmong old u ⊎ IsSameType u t → IsAmong (old ++ copy ∷ []) u
    from u (inl there) = any-append (IsSameType u) old (copy ∷ []) (inl there)
    from u (inr e) = any-append (IsSameType u) old (copy ∷ []) (inr (any-one (IsSameType u) copy (same-then u t copy e same)))

pub notes-then : {A B : SemType → Type 0} {f g h : List SemType} → Notes A f g → Notes B g h → Notes (λ t. A t ⊎ B t) f h
notes-then {A} {B} {f} {g} {h} n o = record { once = λ x. o.once (n.once x); are = λ t. (to t, from t) }
  where
    to : (t : SemType) → IsAmong h t → IsAmong f t ⊎ (A t ⊎ B t)
    to t x = elim ((o.are t).0 x) [ inl y ↦ elim ((n.are t).0 y) [ inl z ↦ inl z | inr a ↦ inr (inl a) ] | inr b ↦ inr (inr b) ]

    from : (t : SemType) → IsAmong f t ⊎ (A t ⊎ B t) → IsAmong h t
    from t (inl x) = (o.are t).1 (inl ((n.are t).1 (inl x)))
    from t (inr (inl a)) = (o.are t).1 (inl ((n.are t).1 (inr a)))
    from t (inr (inr b)) = (o.are t).1 (inr b)

pub notes-as : {A : SemType → Type 0} (B : SemType → Type 0) {f g : List SemType} → ((t : SemType) → A t → B t) → ((t : SemType) → B t → A t) → Notes A f g → Notes B f g
notes-as {A} B {f} {g} there back n = record { once = n.once; are = λ t. (to t, from t) }
  where
    to : (t : SemType) → IsAmong g t → IsAmong f t ⊎ B t
    to t x = elim ((n.are t).0 x) [ inl y ↦ inl y | inr a ↦ inr (there t a) ]

    from : (t : SemType) → IsAmong f t ⊎ B t → IsAmong g t
    from t (inl x) = (n.are t).1 (inl x)
    from t (inr b) = (n.are t).1 (inr (back t b))

-- ---- in loops

-- one more of those that come one after another
pub notes-next : {X : Type 0} (Asks : X → SemType → Type 0) (xs : List X) (i : ℕ) (x : X) (f g h : List SemType) → i < length xs → x ≡ get_or xs i x → Notes (λ t. Any (λ y. Asks y t) (take i xs)) f g → Notes (Asks x) g h
    → Notes (λ t. Any (λ y. Asks y t) (take (i + 1) xs)) f h
notes-next Asks xs i x f g h lt is n o =
    subst (λ l. Notes (λ t. Any (λ y. Asks y t) l) f h) (sym (take_more xs i x lt ∙ ap (λ y. take i xs ++ y ∷ []) (sym is)))
    (notes-as (λ t. Any (λ y. Asks y t) (take i xs ++ x ∷ [])) (λ t h. to t h) (λ t h. from t h) (notes-then n o))
  where
    to : (t : SemType) → Any (λ y. Asks y t) (take i xs) ⊎ Asks x t → Any (λ y. Asks y t) (take i xs ++ x ∷ [])
    to t (inl h) = any-append (λ y. Asks y t) (take i xs) (x ∷ []) (inl h)
    to t (inr a) = any-append (λ y. Asks y t) (take i xs) (x ∷ []) (inr (any-one (λ y. Asks y t) x a))

    from : (t : SemType) → Any (λ y. Asks y t) (take i xs ++ x ∷ []) → Any (λ y. Asks y t) (take i xs) ⊎ Asks x t
    from t h = elim (any-parts (λ y. Asks y t) (take i xs) (x ∷ []) h) [ inl y ↦ inl y | inr last ↦ inr (one-any (λ y. Asks y t) x last) ]

-- and so of what is made of each
pub mapped-next : {X Y : Type 0} (v : X → Y) (Asks : Y → SemType → Type 0) (xs : List X) (i : ℕ) (x : X) (f g h : List SemType) → i < length xs → x ≡ get_or xs i x → Notes (λ t. Any (λ y. Asks y t) (map v (take i xs))) f g → Notes (Asks (v x)) g h
    → Notes (λ t. Any (λ y. Asks y t) (map v (take (i + 1) xs))) f h
mapped-next v Asks xs i x f g h lt is n o =
    notes-as (λ t. Any (λ y. Asks y t) (map v (take (i + 1) xs))) (λ t k. any-mapped (λ y. Asks y t) v (take (i + 1) xs) k) (λ t k. mapped-any (λ y. Asks y t) v (take (i + 1) xs) k)
    (notes-next (λ y. Asks (v y)) xs i x f g h lt is (notes-as (λ t. Any (λ y. Asks (v y) t) (take i xs)) (λ t k. mapped-any (λ y. Asks y t) v (take i xs) k) (λ t k. any-mapped (λ y. Asks y t) v (take i xs) k) n) o)

-- none of an empty list asks
pub notes-empty : {X : Type 0} (Asks : X → SemType → Type 0) (types : List SemType) → Notes (λ t. Any (λ y. Asks y t) []) types types
notes-empty Asks types = notes-none types (λ t. Any (λ y. Asks y t) []) (λ t h. any-none (λ y. Asks y t) h)

-- and all of them, at the end
pub notes-all : {X : Type 0} (Asks : X → SemType → Type 0) (xs : List X) (i : ℕ) (f g : List SemType) → length xs ≤ i → Notes (λ t. Any (λ y. Asks y t) (take i xs)) f g → Notes (λ t. Any (λ y. Asks y t) xs) f g
notes-all Asks xs i f g le n = subst (λ l. Notes (λ t. Any (λ y. Asks y t) l) f g) (take_all i xs le) n

pub mapped-all : {X Y : Type 0} (v : X → Y) (Asks : Y → SemType → Type 0) (xs : List X) (i : ℕ) (f g : List SemType) → length xs ≤ i → Notes (λ t. Any (λ y. Asks y t) (map v (take i xs))) f g → Notes (λ t. Any (λ y. Asks y t) (map v xs)) f g
mapped-all v Asks xs i f g le n = subst (λ l. Notes (λ t. Any (λ y. Asks y t) (map v l)) f g) (take_all i xs le) n

-- ---- members of structures

pub notes-one : {X : Type 0} (Asks : X → SemType → Type 0) (x : X) (f g : List SemType) → Notes (Asks x) f g → Notes (λ t. Any (λ y. Asks y t) (x ∷ [])) f g
notes-one Asks x f g n = notes-as (λ t. Any (λ y. Asks y t) (x ∷ [])) (λ t a. any-one (λ y. Asks y t) x a) (λ t h. one-any (λ y. Asks y t) x h) n

pub notes-append : {X : Type 0} (Asks : X → SemType → Type 0) (xs ys : List X) (f g h : List SemType) → Notes (λ t. Any (λ y. Asks y t) xs) f g → Notes (λ t. Any (λ y. Asks y t) ys) g h → Notes (λ t. Any (λ y. Asks y t) (xs ++ ys)) f h
notes-append Asks xs ys f g h n o =
    notes-as (λ t. Any (λ y. Asks y t) (xs ++ ys)) (λ t k. any-append (λ y. Asks y t) xs ys k) (λ t k. any-parts (λ y. Asks y t) xs ys k) (notes-then n o)

pub notes-mapped : {X Y : Type 0} (v : X → Y) (Asks : Y → SemType → Type 0) (xs : List X) (f g : List SemType) → Notes (λ t. Any (λ x. Asks (v x) t) xs) f g → Notes (λ t. Any (λ y. Asks y t) (map v xs)) f g
notes-mapped v Asks xs f g n = notes-as (λ t. Any (λ y. Asks y t) (map v xs)) (λ t k. any-mapped (λ y. Asks y t) v xs k) (λ t k. mapped-any (λ y. Asks y t) v xs k) n

-- ---- all, from nothing on

pub none-once : AreOnce []
none-once i j d lt le = absurd (omega (arith, le))

pub all-noted : {A B : SemType → Type 0} {f g h : List SemType} → f ≡ [] → Notes A f g → Notes B g h → AreOnce h × ((t : SemType) → IsAmong h t ↔ (A t ⊎ B t))
all-noted {A} {B} {f} {g} {h} none n o = (all.once (subst AreOnce (sym none) none-once), λ t. (λ x. to t ((all.are t).0 x), λ x. (all.are t).1 (inr x)))
  where
    all : Notes (λ t. A t ⊎ B t) f h
    all = notes-then n o

    to : (t : SemType) → IsAmong f t ⊎ (A t ⊎ B t) → A t ⊎ B t
    to t (inl x) = absurd (any-none (IsSameType t) (subst (λ l. IsAmong l t) none x))
    to t (inr x) = x

pub ruleset noting = (no-asks, notes-nothing)
