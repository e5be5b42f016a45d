-- The first places of numbers in an order, looked for one after another.
use Rattle.std.proofs.Common.{◌≡◌, ◌∙◌, ◌<◌, ◌≤◌, ◌⊎◌, ◌+◌, ◌++◌, ℕ, List, [], ◌∷◌, Result, Ok, Err, get_or, length, refl, sym, subst, inl, inr, arith}
use Rattle.std.specs.Prelude.{IfOk}
use Rattle.std.proofs.lemmas.Bool.{cases_lt}
use Rattle.std.proofs.lemmas.List.{get_or_append_left, get_or_default, length-append}
use Rattle.std.proofs.Math.Seq.{get_or-append_seam}
use Rattle.worker_ranks.specs.inner.Vertices.{AreRanks, IsFirstPlace}

-- it stands at none of the first so many places
abbrev pub NotYet : List ℕ → ℕ → ℕ → Type 0
NotYet order number i = (other : ℕ) → other < i → get_or order other 0 ≡ number → ⊥

module _ (order : List ℕ) (number i x : ℕ) (lt : i < length order) (at : x ≡ get_or order i x) where
  here : get_or order i 0 ≡ x
  here = get_or_default order i 0 x lt ∙ sym at

  pub not-yet-next : (x ≡ number → ⊥) → NotYet order number i → NotYet order number (i + 1)
  not-yet-next apart before other less is = by (cases_lt other i)
    where
      by : (other < i) ⊎ (i ≤ other) → ⊥
      by (inl earlier) = before other earlier is
      by (inr later) = let e : other ≡ i = omega (arith, less, later) in apart (sym here ∙ sym (subst (λ n. get_or order n 0 ≡ get_or order i 0) (sym e) refl) ∙ is)

  pub first-place : (place : ℕ) → place ≡ i → x ≡ number → NotYet order number i → IsFirstPlace order number place
  first-place place e is before =
      subst (IsFirstPlace order number) (sym e) (record { inside = lt; there = here ∙ is; first = first })
    where
      first : (other : ℕ) → other < length order → get_or order other 0 ≡ number → i ≤ other
      first other less same = by (cases_lt other i)
        where
          by : (other < i) ⊎ (i ≤ other) → i ≤ other
          by (inl earlier) = absurd (before other earlier same)
          by (inr later) = later

-- one rank more
pub ranks-more : (order ranks : List ℕ) (n rank : ℕ) → AreRanks order ranks n → IsFirstPlace order n rank → AreRanks order (ranks ++ rank ∷ []) (n + 1)
ranks-more order ranks n rank are one = record { long = long; places = places }
  where
    all : length (ranks ++ rank ∷ []) ≡ length ranks + 1
    all = length-append ranks (rank ∷ [])

    long : length (ranks ++ rank ∷ []) ≡ n + 1
    long = let so = are.long in omega (arith, all, so)

    last : get_or (ranks ++ rank ∷ []) n 0 ≡ rank
    last = subst (λ k. get_or (ranks ++ rank ∷ []) k 0 ≡ rank) are.long (get_or-append_seam ranks rank [] 0)

    places : (number : ℕ) → number < n + 1 → IsFirstPlace order number (get_or (ranks ++ rank ∷ []) number 0)
    places number lt = by (cases_lt number n)
      where
        by : (number < n) ⊎ (n ≤ number) → IsFirstPlace order number (get_or (ranks ++ rank ∷ []) number 0)
        by (inl less) = subst (IsFirstPlace order number) (sym (get_or_append_left ranks (rank ∷ []) 0 number (let so = are.long in omega (arith, less, so)))) (are.places number less)
        by (inr more) =
            let e : n ≡ number = omega (arith, lt, more) in
            subst (λ k. IsFirstPlace order k (get_or (ranks ++ rank ∷ []) k 0)) e (subst (IsFirstPlace order n) (sym last) one)

pub rank-ok : {Z : Type 0} (order : List ℕ) (number place : ℕ) (r : Result ℕ Z) → IfOk r (λ rank. rank ≡ place) → IsFirstPlace order number place → IfOk r (IsFirstPlace order number)
rank-ok order number place (Ok rank) same is = subst (IsFirstPlace order number) (sym same) is
rank-ok order number place (Err e) same is = tt
