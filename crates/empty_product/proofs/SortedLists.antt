-- Lists of texts that rise: put together, taken apart, and the place of a text.
use Rattle.std.proofs.Common.{◌≡◌, ℕ, zero, suc, List, [], ◌∷◌, ◌++◌, All, Some, slice_get, refl, ap}
use Rattle.std.proofs.lemmas.List.Elements.{All-nil, All-cons, All-head, All-tail, All-push}
use Rattle.bal_base.specs.declared.text.Text.{Text}
use Rattle.type_model.proofs.TextOrder.{Below, below-apart, Sorted, KeysSorted}
use Rattle.type_diagrams.proofs.Elements.{All-parts}
use Rattle.empty_product.proofs.Zipped.{none_some, some_same, All-slice_get}

module _ {A : Type 0} (f : A → Text) where
  -- those in front are below all behind
  pub Sorted-append : (xs ys : List A) → Sorted f (xs ++ ys) → Sorted f xs × Sorted f ys × All (λ x. All (λ y. Below (f x) (f y)) ys) xs
  Sorted-append [] ys h = (tt, h, All-nil _)
  Sorted-append (x ∷ xs) ys h =
      let rest = Sorted-append xs ys h.1 in
      let both = All-parts (λ y. Below (f x) (f y)) xs ys h.0 in
      ((both.0, rest.0), rest.1, All-cons (λ z. All (λ y. Below (f z) (f y)) ys) x xs both.1 rest.2)

  pub Sorted-push : (xs : List A) (y : A) → Sorted f xs → All (λ x. Below (f x) (f y)) xs → Sorted f (xs ++ y ∷ [])
  Sorted-push [] y h above = (All-nil _, tt)
  Sorted-push (x ∷ xs) y h above =
      (All-push (λ z. Below (f x) (f z)) xs y h.0 (All-head (λ z. Below (f z) (f y)) x xs above), Sorted-push xs y h.1 (All-tail (λ z. Below (f z) (f y)) x xs above))

-- two places of a list that rises with one text are one
pub Sorted-at : (ks : List Text) → KeysSorted ks → (i j : ℕ) (k : Text) → slice_get ks i ≡ Some k → slice_get ks j ≡ Some k → i ≡ j
Sorted-at [] h i j k p q = absurd (none_some p)
Sorted-at (l ∷ ks) h zero zero k p q = refl
Sorted-at (l ∷ ks) h zero (suc j) k p q = absurd (below-apart l k (All-slice_get (Below l) ks j k h.0 q) (some_same p))
Sorted-at (l ∷ ks) h (suc i) zero k p q = absurd (below-apart l k (All-slice_get (Below l) ks i k h.0 p) (some_same q))
Sorted-at (l ∷ ks) h (suc i) (suc j) k p q = ap suc (Sorted-at ks h.1 i j k p q)
