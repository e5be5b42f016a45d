-- Steps that are a path, which get one more or one fewer; and the cycle that a path closes.
use Rattle.std.proofs.Common.{◌≡◌, ℕ, zero, suc, ◌+◌, ◌<◌, ◌≤◌, ◌⊎◌, inl, inr, List, [], ◌∷◌, ◌++◌, length, length-append, get_or, slice_get, take, sym, ap, subst, ◌∙◌, arith, Some}
use Rattle.std.specs.List.{Contains}
use Rattle.std.proofs.lemmas.Bool.{cases_lt}
use Rattle.std.proofs.lemmas.List.{take-append-le}
use Rattle.std.proofs.lemmas.List.Elements.{Contains-push_cases}
use Rattle.std.proofs.lemmas.Option.{get_or_from_slice_get, slice_get_within}
use Rattle.std.proofs.Math.ListN.{get_or-append}
use Rattle.std.proofs.Math.Seq.{get_or-append_seam, take-append_seam}
use Rattle.graphs.specs.Cycles.{Follows, IsWay, followers}
use Rattle.graphs.specs.Ordering.{HasCycle, IsOnce}
use Rattle.graphs.specs.inner.Walks.{IsAt, IsPath, numbers}
use Rattle.graphs.specs.declared.order.Step.{Step}
use Rattle.graphs.proofs.Noting.{none-among}

pub contains-at : (xs : List ℕ) (i x : ℕ) → slice_get xs i ≡ Some x → Contains xs x
contains-at xs i x h = (i, slice_get_within xs i x h, get_or_from_slice_get xs i x x h)

-- ---- no number twice

pub once-push : (xs : List ℕ) (n : ℕ) → IsOnce xs → (Contains xs n → ⊥) → IsOnce (xs ++ n ∷ [])
once-push xs n once new place lt c = by (cases_lt place (length xs))
  where
    by : (place < length xs) ⊎ (length xs ≤ place) → ⊥
    by (inl small) =
        once place small
        (subst (λ ys. Contains ys (get_or xs place 0)) (take-append-le place xs (n ∷ []) (omega (arith, small)))
        (subst (Contains (take place (xs ++ n ∷ []))) (get_or-append xs (n ∷ []) 0 place small) c))
    by (inr large) =
        let long = length-append xs (n ∷ []) in
        let e : place ≡ length xs = omega (arith, large, lt, long) in
        new (subst (λ ys. Contains ys n) (take-append_seam xs (n ∷ []))
        (subst (Contains (take (length xs) (xs ++ n ∷ []))) (get_or-append_seam xs n [] 0) (subst (λ p. Contains (take p (xs ++ n ∷ [])) (get_or (xs ++ n ∷ []) p 0)) e c)))

pub once-pop : (xs : List ℕ) (n : ℕ) → IsOnce (xs ++ n ∷ []) → IsOnce xs × (Contains xs n → ⊥)
once-pop xs n once = (earlier, last)
  where
    long : length (xs ++ n ∷ []) ≡ length xs + 1
    long = length-append xs (n ∷ [])

    earlier : IsOnce xs
    earlier place small c =
        once place (omega (arith, small, long))
        (subst (λ ys. Contains ys (get_or (xs ++ n ∷ []) place 0)) (sym (take-append-le place xs (n ∷ []) (omega (arith, small))))
        (subst (Contains (take place xs)) (sym (get_or-append xs (n ∷ []) 0 place small)) c))

    last : Contains xs n → ⊥
    last c =
        once (length xs) (omega (arith, long))
        (subst (λ ys. Contains ys (get_or (xs ++ n ∷ []) (length xs) 0)) (sym (take-append_seam xs (n ∷ [])))
        (subst (Contains xs) (sym (get_or-append_seam xs n [] 0)) c))

-- ---- paths

module _ (next : List (List ℕ)) where
  at-longer : (x : Step) (steps : List Step) (s : Step) (more : List Step) → IsAt next x (steps ++ s ∷ []) → IsAt next x ((steps ++ s ∷ []) ++ more)
  at-longer x [] s more h = h
  at-longer x (y ∷ steps) s more h = h

  at-shorter : (x : Step) (steps : List Step) (s : Step) → IsAt next x (steps ++ s ∷ []) → IsAt next x steps
  at-shorter x [] s h = tt
  at-shorter x (y ∷ steps) s h = h

  at-moved : (x : Step) (steps : List Step) (s t : Step) → s.number ≡ t.number → IsAt next x (steps ++ s ∷ []) → IsAt next x (steps ++ t ∷ [])
  at-moved x [] s t e h = h ∙ ap Some e
  at-moved x (y ∷ steps) s t e h = h

  -- a part of the last step is the next one
  pub path-push : (steps : List Step) (s t : Step) → IsPath next (steps ++ s ∷ []) → slice_get (followers next s.number) s.parts ≡ Some t.number → IsPath next ((steps ++ s ∷ []) ++ t ∷ [])
  path-push [] s t p h = (h, (tt, tt))
  path-push (x ∷ steps) s t p h = (at-longer x steps s (t ∷ []) p.0, path-push steps s t p.1 h)

  pub path-pop : (steps : List Step) (s : Step) → IsPath next (steps ++ s ∷ []) → IsPath next steps
  path-pop [] s p = tt
  path-pop (x ∷ steps) s p = (at-shorter x steps s p.0, path-pop steps s p.1)

  -- the last step is at another part
  pub path-moved : (steps : List Step) (s t : Step) → s.number ≡ t.number → IsPath next (steps ++ s ∷ []) → IsPath next (steps ++ t ∷ [])
  path-moved [] s t e p = (tt, tt)
  path-moved (x ∷ steps) s t e p = (at-moved x steps s t e p.0, path-moved steps s t e p.1)

  -- ---- cycles

  -- from the first step to the last
  first-to-last : (x : Step) (steps : List Step) (s : Step) → IsPath next (x ∷ steps ++ s ∷ []) → (others : List ℕ) × IsWay next x.number others s.number
  first-to-last x [] s p = ([], contains-at (followers next x.number) x.parts s.number p.0)
  first-to-last x (y ∷ steps) s p =
      let way = first-to-last y steps s p.1 in (y.number ∷ way.0, (contains-at (followers next x.number) x.parts y.number p.0, way.1))

  -- from any other step to the last
  to-last : (steps : List Step) (s : Step) (k : ℕ) → IsPath next (steps ++ s ∷ []) → Contains (numbers steps) k → (others : List ℕ) × IsWay next k others s.number
  to-last [] s k p c = absurd (none-among k c)
  to-last (x ∷ steps) s k p (zero, lt, e) = subst (λ i. (others : List ℕ) × IsWay next i others s.number) e (first-to-last x steps s p)
  to-last (x ∷ steps) s k p (suc i, lt, e) = to-last steps s k p.1 (i, omega (arith, lt), e)

  way-on : (i : ℕ) (others : List ℕ) (j k : ℕ) → IsWay next i others j → Follows next j k → IsWay next i (others ++ j ∷ []) k
  way-on i [] j k w f = (w, f)
  way-on i (o ∷ others) j k w f = (w.0, way-on o others j k w.1 f)

  -- where the last step is at the number of a step there is a cycle
  pub closes : (steps : List Step) (s : Step) (k : ℕ) → IsPath next (steps ++ s ∷ []) → Contains (numbers steps ++ s.number ∷ []) k → slice_get (followers next s.number) s.parts ≡ Some k → HasCycle next
  closes steps s k p c h = by (Contains-push_cases (numbers steps) s.number k c)
    where
      f : Follows next s.number k
      f = contains-at (followers next s.number) s.parts k h

      by : Contains (numbers steps) k ⊎ (s.number ≡ k) → HasCycle next
      by (inl earlier) = let way = to-last steps s k p earlier in (k, (way.0 ++ s.number ∷ [], way-on k way.0 s.number k way.1 f))
      by (inr e) = (k, ([], subst (λ i. Follows next i k) e f))
