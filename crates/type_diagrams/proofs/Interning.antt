-- A list in which each value has one place: finding the place of a value, and giving it one.
use Rattle.std.proofs.Common.{◌≡◌, ℕ, zero, suc, ◌<◌, List, [], ◌∷◌, ◌++◌, length, get_or, Bool, true, false, ◌||◌, Some, slice_get, if◌then◌else◌, ◌⊎◌, ⊎_elim, inl, inr, refl, sym, subst, ◌∙◌, ap, length-append, arith}
use Rattle.std.specs.List.{list_any, position}
use Rattle.std.proofs.lemmas.Bool.{false≢true, cases_order}
use Rattle.std.proofs.lemmas.Option.{slice_get_within, slice_get-get_or}
use Rattle.std.proofs.lemmas.List.Quantifiers.{position-Some}
use Rattle.indexmap.specs.IndexSet.{insert_key}
use Rattle.type_diagrams.specs.Tables.{HasNoTwins}
use Rattle.type_diagrams.proofs.NodeTrees.{slice_get-append, slice_get-last}

pub or_false : (a b : Bool) → (a || b) ≡ false → (a ≡ false) × (b ≡ false)
or_false true b e = absurd (false≢true (sym e))
or_false false b e = (refl, e)

module _ {X : Type 0} where
  pub found : (test : X → Bool) (xs : List X) (i : ℕ) (x : X) → ((y : X) → test y ≡ true → x ≡ y) → position test xs ≡ Some i → slice_get xs i ≡ Some x
  found test xs i x is e =
      let p = position-Some test xs i x e in
      slice_get-get_or xs i x p.0 ∙ ap Some (sym (is (get_or xs i x) p.1))

  pub inserted : (same : X → X → Bool) (xs : List X) (x : X) → list_any (same x) xs ≡ false → insert_key same xs x ≡ xs ++ x ∷ []
  inserted same xs x e = ap (λ b. if b then xs else xs ++ x ∷ []) e

  fails_at : (test : X → Bool) (xs : List X) (k : ℕ) (y : X) → list_any test xs ≡ false → slice_get xs k ≡ Some y → test y ≡ false
  fails_at test [] k y h e = cc
  fails_at test (x ∷ xs) zero y h e = let same : x ≡ y = cc in subst (λ z. test z ≡ false) same (or_false (test x) (list_any test xs) h).0
  fails_at test (x ∷ xs) (suc k) y h e = fails_at test xs k y (or_false (test x) (list_any test xs) h).1 e

  -- where a member of a longer list by one stands: in the list, or behind it
  pub at_or_last : (xs : List X) (x : X) (k : ℕ) (y : X) → slice_get (xs ++ x ∷ []) k ≡ Some y → (slice_get xs k ≡ Some y) ⊎ ((k ≡ length xs) × (x ≡ y))
  at_or_last xs x k y e =
      ⊎_elim
      (λ (is : k ≡ length xs). let at : slice_get (xs ++ x ∷ []) (length xs) ≡ Some y = ap (λ j. slice_get (xs ++ x ∷ []) j) (sym is) ∙ e in
      let both : Some x ≡ Some y = sym (slice_get-last xs [] x) ∙ at in
      let same : x ≡ y = cc in
      inr (is, same))
      (λ (o : (k < length xs) ⊎ (length xs < k)). ⊎_elim
      (λ (lt : k < length xs). inl (sym (slice_get-append xs (x ∷ []) k lt) ∙ e))
      (λ (gt : length xs < k). absurd (omega (arith, gt, slice_get_within (xs ++ x ∷ []) k y e, length-append xs (x ∷ []))))
      o)
      (cases_order k (length xs))

  -- a list with one more that is not in it
  pub no_twins-new : (xs : List X) (x : X) → HasNoTwins xs → ((k : ℕ) (y : X) → slice_get xs k ≡ Some y → x ≡ y → ⊥) → HasNoTwins (xs ++ x ∷ [])
  no_twins-new xs x h new i j y e f =
      ⊎_elim
      (λ (a : slice_get xs i ≡ Some y). ⊎_elim
      (λ (b : slice_get xs j ≡ Some y). h i j y a b)
      (λ (b : (j ≡ length xs) × (x ≡ y)). absurd (new i y a b.1))
      (at_or_last xs x j y f))
      (λ (a : (i ≡ length xs) × (x ≡ y)). ⊎_elim
      (λ (b : slice_get xs j ≡ Some y). absurd (new j y b a.1))
      (λ (b : (j ≡ length xs) × (x ≡ y)). a.0 ∙ sym b.0)
      (at_or_last xs x j y f))
      (at_or_last xs x i y e)

  pub no_twins-push : (test : X → Bool) (xs : List X) (x : X) → HasNoTwins xs → list_any test xs ≡ false → test x ≡ true → HasNoTwins (xs ++ x ∷ [])
  no_twins-push test xs x h none self =
      no_twins-new xs x h (λ k y e s. false≢true (sym (fails_at test xs k y none e) ∙ subst (λ z. test z ≡ true) s self))
