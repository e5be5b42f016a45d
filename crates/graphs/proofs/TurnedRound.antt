-- Each graph can be turned round, and a graph that was turned round is the other one turned round.
use Rattle.std.proofs.Common.{◌≡◌, ℕ, zero, suc, ◌+◌, ◌<◌, ◌≤◌, ◌⊎◌, inl, inr, List, [], ◌∷◌, ◌++◌, length, get_or, set, take, replicate, refl, sym, subst, arith}
use Rattle.std.proofs.lemmas.Bool.{cases_lt}
use Rattle.std.proofs.lemmas.List.{get_or_default, take_all}
use Rattle.graphs.specs.Distances.{IsReversed}
use Rattle.graphs.specs.inner.Searching.{AddsEdge, AddsEdges, IsTurned}
use Rattle.graphs.specs.Ordering.{IsInside}
use Rattle.graphs.proofs.Turning.{all-turned, edge-more, more-turned, no-edges, none-turned}

one-more : (n x : ℕ) (mid : List (List ℕ)) → (new : List (List ℕ)) × AddsEdge n x mid new
one-more n x mid = by (cases_lt x (length mid))
  where
    by : (x < length mid) ⊎ (length mid ≤ x) → (new : List (List ℕ)) × AddsEdge n x mid new
    by (inl lt) = (set mid x (get_or mid x [] ++ n ∷ []), inl (lt, refl))
    by (inr le) = (mid, inr (le, refl))

edges-to : (n : ℕ) (ys : List ℕ) (old : List (List ℕ)) (k : ℕ) → k ≤ length ys → (new : List (List ℕ)) × AddsEdges n (take k ys) old new
edges-to n ys old zero le = (old, no-edges n old)
edges-to n ys old (suc k) le =
    let before = edges-to n ys old k (omega (arith, le)) in
    let step = one-more n (get_or ys k 0) before.0 in
    let next : k + 1 ≡ suc k = omega arith in (
      step.0,
      subst (λ i. AddsEdges n (take i ys) old step.0) next
          (edge-more n ys k (get_or ys k 0) old before.0 step.0 (omega (arith, le)) (get_or_default ys k 0 (get_or ys k 0) (omega (arith, le))) step.1 before.1),
    )

edges : (n : ℕ) (ys : List ℕ) (old : List (List ℕ)) → (new : List (List ℕ)) × AddsEdges n ys old new
edges n ys old = let all = edges-to n ys old (length ys) (omega arith) in (all.0, subst (λ xs. AddsEdges n xs old all.0) (take_all (length ys) ys (omega arith)) all.1)

turned-to : (next : List (List ℕ)) (k : ℕ) → (back : List (List ℕ)) × IsTurned k next back
turned-to next zero = (replicate (length next) [], none-turned next (replicate (length next) []) refl)
turned-to next (suc k) =
    let before = turned-to next k in
    let step = edges k (get_or next k []) before.0 in
    let more : k + 1 ≡ suc k = omega arith in (step.0, subst (λ i. IsTurned i next step.0) more (more-turned k next before.0 step.0 before.1 step.1))

pub has-reversed : (next : List (List ℕ)) → (back : List (List ℕ)) × IsReversed next back
has-reversed next = let t = turned-to next (length next) in (t.0, all-turned (length next) next t.0 (omega arith) t.1)

pub turned-back : (next back : List (List ℕ)) → IsInside next → IsReversed next back → IsReversed back next
turned-back next back inside r = record {
  long = sym r.long;
  follows = λ i j m. r.known j i (inside j i m) m;
  known = λ i j lt f. r.follows j i f;
}
