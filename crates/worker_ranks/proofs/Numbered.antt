-- Ranks by places in an order of the graph are a numbering of the events.
use Rattle.std.proofs.Common.{◌≡◌, ◌∙◌, ◌<◌, ◌≤◌, ◌⊎◌, ◌+◌, ◌++◌, ℕ, zero, suc, List, [], ◌∷◌, Option, Some, None, Result, Ok, Err, Vec, get_or, length, take, refl, sym, subst, ap, inl, inr, arith}
use Rattle.std.specs.Prelude.{Contains, IfOk, IfSome, IsSomeAnd, filter, not, slice_get}
use Rattle.std.specs.Global.{Global}
use Rattle.std.proofs.lemmas.Bool.{cases_lt}
use Rattle.std.proofs.lemmas.List.{get_or-take, get_or_default, length-append, length-take}
use Rattle.std.proofs.lemmas.List.Filters.{length-filter_both}
use Rattle.std.proofs.lemmas.Option.{slice_get_within}
use Rattle.graphs.specs.Cycles.{Follows}
use Rattle.graphs.specs.Ordering.{IsInside, IsOrder}
use Rattle.graphs.proofs.Levels.{follows-place}
use Rattle.worker_pairing.specs.Events.{IsNumbering, Needs, NeedsAs, events_of}
use Rattle.worker_pairing.specs.Faults.{crew_of, rank_in, start_of}
use Rattle.worker_pairing.specs.Marks.{Members, Numbered, in_text, in_turn, is_initial, numbered_from}
use Rattle.worker_ranks.specs.inner.Vertices.{AreRanks}
use Rattle.worker_ranks.proofs.Edges.{need-close, needed-there, step-close}
use Rattle.worker_ranks.proofs.Graphs.{some-is}
use Rattle.worker_ranks.proofs.InTurn.{turned, turned-has, turned-inside, turned-long, vertex-there}

-- ---- ranks fall along edges

module _ (next : List (List ℕ)) (n : ℕ) (order ranks : List ℕ) (is : IsOrder next order) (within : IsInside next) (long : length next ≡ n) (ranked : AreRanks order ranks n) where
  inside : (s : ℕ) → s < length next → s < n
  inside s lt = omega (arith, lt, long)

  falls : (s t : ℕ) → Follows next s t → get_or ranks t 0 < get_or ranks s 0
  falls s t f =
      let from = ranked.places s (inside s (follows-place next s t f)) in
      let to = ranked.places t (inside t (within s t f)) in
      earlier (is.behind (get_or ranks s 0) t from.inside (subst (λ n. Follows next n t) (sym from.there) f)) to.first
    where
      earlier : Contains (take (get_or ranks s 0) order) t → ((other : ℕ) → other < length order → get_or order other 0 ≡ t → get_or ranks t 0 ≤ other) → get_or ranks t 0 < get_or ranks s 0
      earlier (q, lt, same) first =
          let few = length-take (get_or ranks s 0) order in
          let before : q < get_or ranks s 0 = omega (arith, lt, few) in
          let there : q < length order = omega (arith, lt, few) in
          let least = first q there (get_or_default order q 0 t there ∙ sym (get_or-take (get_or ranks s 0) order q t before) ∙ same) in
          omega (arith, least, before)

-- ---- events in turn

-- ranks that fall along each edge of this graph
abbrev pub Falls : List (List ℕ) → List ℕ → Type 0
Falls next ranks = (s t : ℕ) → Follows next s t → get_or ranks t 0 < get_or ranks s 0

-- what rises at each step rises
rising : (f : ℕ → ℕ) (n : ℕ) → ((i : ℕ) → suc i < n → f i < f (suc i)) → (i j : ℕ) → i < j → j < n → f i < f j
rising f n steps i zero lt there = absurd (omega (arith, lt))
rising f n steps i (suc j) lt there = by (cases_lt i j) (rising f n steps i j)
  where
    by : (i < j) ⊎ (j ≤ i) → (i < j → j < n → f i < f j) → f i < f (suc j)
    by (inl less) before =
        let low = before less (omega (arith, there)) in
        let high = steps j there in
        omega (arith, low, high)
    by (inr more) before = let e : j ≡ i = omega (arith, lt, more) in subst (λ k. f k < f (suc j)) e (steps j there)

module _ (ms : Members) where
  module _ (ranks : List ℕ) (falls-so : Falls (turned ms) ranks) where
    rises-next : (w i : ℕ) → suc i < length (events_of (crew_of ms) w) → rank_in ms ranks w i < rank_in ms ranks w (suc i)
    rises-next w i there =
        let low = vertex-there ms w i (omega (arith, there)) in
        let high = vertex-there ms w (suc i) there in
        let next : i + 1 ≡ suc i = omega arith in
        falls-so (start_of ms w + suc i) (start_of ms w + i)
        (turned-has ms (start_of ms w + suc i) (start_of ms w + i) _ _ high.2 low.2 (step-close (crew_of ms) w (suc i) w i low.0 low.1 high.0 high.1 refl next))

    rises : (w i j : ℕ) → i < j → j < length (events_of (crew_of ms) w) → rank_in ms ranks w i < rank_in ms ranks w j
    rises w = rising (rank_in ms ranks w) (length (events_of (crew_of ms) w)) (rises-next w)

    follows : (w i u j : ℕ) → Needs (crew_of ms) w i u j → rank_in ms ranks u j < rank_in ms ranks w i
    follows w i u j h =
        let e = some-is (λ e. NeedsAs (crew_of ms) e w i u j) (slice_get (events_of (crew_of ms) w) i) h in
        let one = vertex-there ms w i (slice_get_within (events_of (crew_of ms) w) i e.0 e.1) in
        let other = vertex-there ms u j (needed-there (crew_of ms) e.0 w i u j e.2) in
        falls-so (start_of ms w + i) (start_of ms u + j)
        (turned-has ms (start_of ms w + i) (start_of ms u + j) _ _ one.2 other.2 (need-close (crew_of ms) w i u j other.0 other.1 one.0 one.1 h))

    pub is-numbering : IsNumbering (crew_of ms) (rank_in ms ranks)
    is-numbering = record { rises = rises; follows = follows }

-- ---- as many as in the text

length-turned : (ms : Members) → length (in_turn 0 ms) ≡ length (in_text ms)
length-turned [] = refl
length-turned (own ∷ named) =
    let xs : List Numbered = numbered_from 0 0 own.sayings in
    let both = length-filter_both is_initial (λ e. not (is_initial e)) (λ e. refl) xs in
    let whole = length-append xs (in_turn 1 named) in
    let first = length-append (filter is_initial xs) (in_turn 1 named) in
    let text = length-append (filter is_initial xs ++ in_turn 1 named) (filter (λ e. not (is_initial e)) xs) in
    omega (arith, both, whole, first, text)

-- ---- what the order gives

module _ (ms : Members) (next : List (List ℕ)) (n : ℕ) (graph : next ≡ turned ms) (count : n ≡ length next) where
  counted : n ≡ length (turned ms)
  counted = count ∙ ap length graph

  ranked-long : (order ranks : List ℕ) → AreRanks order ranks n → length ranks ≡ length (in_text ms)
  ranked-long order ranks ranked = ranked.long ∙ counted ∙ turned-long ms ∙ length-turned ms

  ranked-numbering : (order ranks : List ℕ) → IsOrder next order → AreRanks order ranks n → IsNumbering (crew_of ms) (rank_in ms ranks)
  ranked-numbering order ranks is ranked =
      is-numbering ms ranks (falls (turned ms) n order ranks (subst (λ g. IsOrder g order) graph is) (turned-inside ms) (sym counted) ranked)

  module _ {Y : Type 0} (order : Option (Vec ℕ Global)) (r : Result (Option (Vec ℕ Global)) Y) (is : IfSome order (λ o. IsOrder next o.items)) where
    pub long-so : IfOk r (λ found. IfSome found (λ ranks. IsSomeAnd order (λ o. AreRanks o.items ranks.items n))) → IfOk r (λ found. IfSome found (λ ranks. length ranks.items ≡ length (in_text ms)))
    long-so h = by order r h
      where
        by : (order : Option (Vec ℕ Global)) (r : Result (Option (Vec ℕ Global)) Y) → IfOk r (λ found. IfSome found (λ ranks. IsSomeAnd order (λ o. AreRanks o.items ranks.items n)))
            → IfOk r (λ found. IfSome found (λ ranks. length ranks.items ≡ length (in_text ms)))
        by (Some o) (Ok (Some ranks)) h = ranked-long o.items ranks.items h
        by None (Ok (Some ranks)) h = absurd h
        by order (Ok None) h = tt
        by order (Err e) h = tt

    pub numbering-so : IfOk r (λ found. IfSome found (λ ranks. IsSomeAnd order (λ o. AreRanks o.items ranks.items n)))
        → IfOk r (λ found. IfSome found (λ ranks. IsNumbering (crew_of ms) (rank_in ms ranks.items)))
    numbering-so h = by order r is h
      where
        by : (order : Option (Vec ℕ Global)) (r : Result (Option (Vec ℕ Global)) Y) → IfSome order (λ o. IsOrder next o.items) → IfOk r (λ found. IfSome found (λ ranks. IsSomeAnd order (λ o. AreRanks o.items ranks.items n)))
            → IfOk r (λ found. IfSome found (λ ranks. IsNumbering (crew_of ms) (rank_in ms ranks.items)))
        by (Some o) (Ok (Some ranks)) is h = ranked-numbering o.items ranks.items is h
        by None (Ok (Some ranks)) is h = absurd h
        by order (Ok None) is h = tt
        by order (Err e) is h = tt
