-- Texts in order, and lists that rise.
use Rattle.std.proofs.Common.{◌≡◌, ℕ, zero, suc, ◌+◌, ◌<◌, List, [], ◌∷◌, length, get_or, All, refl, sym, ap, subst, ◌∙◌, arith}
use Rattle.std.specs.Prelude.{⊤}
use Rattle.std.specs.declared.cmp.Ordering.TheVariants.{Less, Greater}
use Rattle.std.specs.Ordering.{nat_cmp, ordering_reverse}
use Rattle.std.specs.Cmp.Lexicographic.{slice_cmp, nat_list_cmp_total}
use Rattle.std.proofs.lemmas.List.Elements.{All-nil, All-cons, All-get_or, All-weaker}
use Rattle.bal_base.specs.declared.text.Text.{Text}

abbrev pub Below : Text → Text → Type 0
Below s t = slice_cmp nat_cmp s t ≡ Less

pub below-further : (s t u : Text) → Below s t → Below t u → Below s u
below-further s t u h k = nat_list_cmp_total.trans s t u h k

pub not-below-itself : (s : Text) → ¬ Below s s
not-below-itself s h = no (sym h ∙ (nat_list_cmp_total.antisymm s s ∙ ap ordering_reverse h))
  where
    no : Less ≡ Greater → ⊥
    no e = cc

pub below-apart : (s t : Text) → Below s t → s ≡ t → ⊥
below-apart s t h e = not-below-itself s (subst (Below s) (sym e) h)

pub above-below : (s t : Text) → slice_cmp nat_cmp s t ≡ Greater → Below t s
above-below s t h = nat_list_cmp_total.antisymm t s ∙ ap ordering_reverse h

-- ---- lists that rise, by a text of each member

module _ {A : Type 0} (f : A → Text) where
  -- each is below the next
  abbrev pub RiseBy : List A → Type 0
  RiseBy xs = (k : ℕ) (d : A) → k + 1 < length xs → Below (f (get_or xs k d)) (f (get_or xs (k + 1) d))

  -- each is below all after it
  abbrev pub Sorted : List A → Type 0
  Sorted [] = ⊤
  Sorted (x ∷ xs) = All (λ y. Below (f x) (f y)) xs × Sorted xs

  pub RiseBy-tail : (x : A) (xs : List A) → RiseBy (x ∷ xs) → RiseBy xs
  RiseBy-tail x xs h k d lt =
      let e : suc k + 1 ≡ suc (k + 1) = omega arith in
      subst (λ j. Below (f (get_or xs k d)) (f (get_or (x ∷ xs) j d))) e (h (suc k) d (omega (arith, lt)))

  pub Sorted-rise : (xs : List A) → RiseBy xs → Sorted xs
  Sorted-rise [] h = tt
  Sorted-rise (x ∷ []) h = (All-nil _, tt)
  Sorted-rise (x ∷ y ∷ ys) h =
      let rest = Sorted-rise (y ∷ ys) (RiseBy-tail x (y ∷ ys) h) in
      let first : Below (f x) (f y) = h 0 x (omega arith) in
      (All-cons (λ z. Below (f x) (f z)) y ys first (All-weaker (λ z. Below (f y) (f z)) (λ z. Below (f x) (f z)) (λ z b. below-further (f x) (f y) (f z) first b) ys rest.0), rest)

  pub rise-Sorted : (xs : List A) → Sorted xs → RiseBy xs
  rise-Sorted [] h k d lt = absurd (omega (arith, lt))
  rise-Sorted (x ∷ xs) h zero d lt = All-get_or (λ y. Below (f x) (f y)) xs 0 d (omega (arith, lt)) h.0
  rise-Sorted (x ∷ xs) h (suc k) d lt =
      let e : suc (k + 1) ≡ suc k + 1 = omega arith in
      subst (λ j. Below (f (get_or xs k d)) (f (get_or (x ∷ xs) j d))) e (rise-Sorted xs h.1 k d (omega (arith, lt)))

-- keys in order
abbrev pub KeysSorted : List Text → Type 0
KeysSorted keys = Sorted (λ k. k) keys
