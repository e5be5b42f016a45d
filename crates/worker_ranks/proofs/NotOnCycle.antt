-- A number from which no step leads to a cycle lies on none, nor does one to which none leads from one.
use Rattle.std.proofs.Common.{◌≡◌, ◌∙◌, ◌<◌, ◌≤◌, ◌⊎◌, ◌++◌, ℕ, Bool, true, false, List, [], ◌∷◌, get_or, length, map, replicate, set, sym, subst, inl, inr, arith}
use Rattle.std.specs.List.{list_all}
use Rattle.std.proofs.lemmas.Bool.{cases_eq, cases_lt, false≢true}
use Rattle.std.proofs.lemmas.List.{get_or-replicate, get_or-set_other, get_or_past, length-map, length-replicate}
use Rattle.graphs.specs.Cycles.{IsOnCycle, IsWay, Follows, followers}
use Rattle.graphs.specs.Distances.{IsReversed}
use Rattle.graphs.proofs.Levels.{follows-place}
use Rattle.worker_ranks.specs.inner.Free.{AreFree, Frees}
use Rattle.worker_ranks.specs.inner.Vertices.{IsNoneBefore}
use Rattle.worker_ranks.proofs.Risen.{all-there}

-- ---- ways

module _ (next : List (List ℕ)) where
  pub way-on : (s : ℕ) (ks : List ℕ) (m : ℕ) (ls : List ℕ) (t : ℕ) → IsWay next s ks m → IsWay next m ls t → IsWay next s (ks ++ m ∷ ls) t
  way-on s [] m ls t edge way = (edge, way)
  way-on s (k ∷ ks) m ls t (edge, rest) way = (edge, way-on k ks m ls t rest way)

  -- what follows the first of a cycle lies on one
  pub frees-next : Frees next next
  frees-next i none (ks, way) = by ks way
    where
      by : (ks : List ℕ) → IsWay next i ks i → ⊥
      by [] edge = none i edge ([], edge)
      by (k ∷ ks) (edge, rest) = none k edge (ks ++ i ∷ [], way-on k ks i [] k rest edge)

  -- the last step of a way, from the end of which one leads back, begins on a cycle
  before-end : (s : ℕ) (ks : List ℕ) (t : ℕ) → IsWay next s ks t → (ls : List ℕ) → IsWay next t ls s → (k : ℕ) × Follows next k t × IsOnCycle next k
  before-end s [] t edge ls way = (s, edge, (t ∷ ls, (edge, way)))
  before-end s (k ∷ ks) t (edge, rest) ls way = before-end k ks t rest (ls ++ s ∷ []) (way-on t ls s [] k way edge)

  cycle-within : (i : ℕ) (ks : List ℕ) → IsWay next i ks i → i < length next
  cycle-within i [] edge = follows-place next i i edge
  cycle-within i (k ∷ ks) (edge, rest) = follows-place next i k edge

  pub frees-back : (back : List (List ℕ)) → IsReversed next back → Frees next back
  frees-back back reversed i none (ks, way) =
      let found = before-end i ks i way ks way in
      none found.0 (reversed.known found.0 i (cycle-within i ks way) found.1) found.2

  -- a number on a cycle is one of those of the graph that is turned round
  pub cycle-placed : {X : Type 0} (items : X → List ℕ) (backs : List X) (i : ℕ) → IsReversed next (map items backs) → IsOnCycle next i → i < length backs
  cycle-placed items backs i reversed (ks, way) =
      let lt = cycle-within i ks way in
      let same = reversed.long in
      let long = length-map backs items in
      omega (arith, lt, same, long)

  pub none-at-all : {X : Type 0} (items : X → List ℕ) (backs : List X) (n : ℕ) → IsReversed next (map items backs) → length backs ≤ n → IsNoneBefore next n → (i : ℕ) → ¬ IsOnCycle next i
  none-at-all items backs n reversed all none i cycle = none i (let lt = cycle-placed items backs i reversed cycle in omega (arith, lt, all)) cycle

-- ---- marks

pub set-free : (all : List (List ℕ)) (marks : List Bool) (n : ℕ) → AreFree all marks → ¬ IsOnCycle all n → AreFree all (set marks n true)
set-free all marks n are none i is = by (cases_eq i n)
  where
    by : (i ≡ n) ⊎ (i ≡ n → ⊥) → ¬ IsOnCycle all i
    by (inl e) = subst (λ k. ¬ IsOnCycle all k) (sym e) none
    by (inr apart) = are i (sym (get_or-set_other marks n i true false apart) ∙ is)

pub free-more : (all steps : List (List ℕ)) → Frees all steps → (marks : List Bool) (n : ℕ) → list_all (λ t. get_or marks t false) (followers steps n) ≡ true → AreFree all marks → AreFree all (set marks n true)
free-more all steps frees marks n test are =
    set-free all marks n are (frees n (λ j f. are j (all-there (λ t. get_or marks t false) (followers steps n) j test f)))

pub none-marked : (all : List (List ℕ)) (n : ℕ) → AreFree all (replicate n false)
none-marked all n i is = absurd (false≢true (sym (by (cases_lt i n)) ∙ is))
  where
    by : (i < n) ⊎ (n ≤ i) → get_or (replicate n false) i false ≡ false
    by (inl lt) = get_or-replicate n i false false lt
    by (inr ge) = let long : length (replicate n false) ≡ n = length-replicate n false in get_or_past (replicate n false) i false (omega (arith, ge, long))
