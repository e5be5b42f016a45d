-- Strands that wake, one after another.
use Rattle.std.proofs.Common.{◌≡◌, ◌+◌, ℕ, zero, suc, Bool, true, false, List, [], ◌∷◌, ◌++◌, Some, None, length, map, arith, refl, sym, ap, ◌∙◌}
use Rattle.std.specs.Prelude.{slice_get, slice_set, if◌then◌else◌}
use Rattle.std.proofs.lemmas.List.{append_assoc, length-append, map-set}
use Rattle.std.proofs.Math.Seq.{get_or-append_seam, set-append_seam}
use Rattle.op_model.specs.Common.{Common, Strand, IsActive}
use Rattle.op_model.specs.Strands.{no_strand, wakes, with_status, woken, woken_from}
use Rattle.plain_run.specs.Strands.{all_woken, stands_so}
use Rattle.plain_run.specs.Blocked.{listed_if}

by : {A : Type 0} → Bool → A → A → A
by b x y = if b then x else y

-- ---- the list of those who wake

pub woken-more : (c : Common) (n : ℕ) (s : Strand) (ss : List Strand) → woken_from c n (s ∷ ss) ≡ listed_if (wakes c s.status) n ++ woken_from c (n + 1) ss
woken-more c n s ss = cases (wakes c s.status)
  where
    cases : (b : Bool) → (if b then n ∷ woken_from c (n + 1) ss else woken_from c (n + 1) ss) ≡ listed_if b n ++ woken_from c (n + 1) ss
    cases true = refl
    cases false = refl

-- ---- all of them are woken

woken-at : (c : Common) (front : List Strand) (s : Strand) (ss : List Strand) → all_woken (listed_if (wakes c s.status) (length front)) (front ++ s ∷ ss) ≡ front ++ woken c s ∷ ss
woken-at c front s ss = cases (wakes c s.status)
  where
    cases : (b : Bool) → all_woken (listed_if b (length front)) (front ++ s ∷ ss) ≡ front ++ (if b then with_status s IsActive else s) ∷ ss
    cases true =
        (λ i. slice_set (front ++ s ∷ ss) (length front) (with_status (get_or-append_seam front s ss no_strand i) IsActive))
        ∙ set-append_seam front s ss (with_status s IsActive)
    cases false = refl

pub woken-then : (ns ms : List ℕ) (ss : List Strand) → all_woken (ns ++ ms) ss ≡ all_woken ms (all_woken ns ss)
woken-then [] ms ss = refl
woken-then (n ∷ ns) ms ss = woken-then ns ms (stands_so ss n IsActive)

woken-behind : (c : Common) (n : ℕ) (front ss : List Strand) → n ≡ length front → all_woken (woken_from c n ss) (front ++ ss) ≡ front ++ map (woken c) ss
woken-behind c n front [] e = refl
woken-behind c n front (s ∷ ss) e =
    let more : n + 1 ≡ length (front ++ woken c s ∷ []) = last front (woken c s) n e in
    ap (λ ns. all_woken ns (front ++ s ∷ ss)) (woken-more c n s ss)
    ∙ woken-then (listed_if (wakes c s.status) n) (woken_from c (n + 1) ss) (front ++ s ∷ ss)
    ∙ ap (λ k. all_woken (woken_from c (n + 1) ss) (all_woken (listed_if (wakes c s.status) k) (front ++ s ∷ ss))) e
    ∙ ap (all_woken (woken_from c (n + 1) ss)) (woken-at c front s ss ∙ sym (append_assoc front (woken c s ∷ []) ss))
    ∙ woken-behind c (n + 1) (front ++ woken c s ∷ []) ss more
    ∙ append_assoc front (woken c s ∷ []) (map (woken c) ss)
  where
    last : (xs : List Strand) (x : Strand) (k : ℕ) → k ≡ length xs → k + 1 ≡ length (xs ++ x ∷ [])
    last xs x k e = let l = length-append xs (x ∷ []) in omega (arith, e, l)

pub woken-all : (c : Common) (ss : List Strand) → all_woken (woken_from c 0 ss) ss ≡ map (woken c) ss
woken-all c ss = woken-behind c 0 [] ss refl

-- ---- a member of a list that is held

pub set-there : {X Y : Type 0} (f : X → Y) (xs : List X) (n : ℕ) (x : X) (y : Y) → f x ≡ y → map f (slice_set xs n x) ≡ slice_set (map f xs) n y
set-there f xs n x y e = map-set f xs n x ∙ ap (slice_set (map f xs) n) e

pub set-past : {X Y : Type 0} (f : X → Y) (xs : List X) (n : ℕ) (y : Y) → slice_get xs n ≡ None → map f xs ≡ slice_set (map f xs) n y
set-past f [] n y e = refl
set-past f (x ∷ xs) zero y e = absurd (some x e)
  where
    some : {A : Type 0} (a : A) → Some a ≡ None → ⊥
    some a e = cc
set-past f (x ∷ xs) (suc n) y e = ap (λ ys. f x ∷ ys) (set-past f xs n y e)

pub ruleset settling = (woken-more, woken-all, set-there, set-past)
