-- Ranks that fall along each edge, and a numbering.
use Rattle.std.proofs.Common.{◌≡◌, ◌∙◌, ◌<◌, ◌⊎◌, ◌+◌, ◌↔◌, ℕ, zero, suc, Bool, true, List, [], ◌∷◌, Option, Some, None, Result, Ok, Err, get_or, refl, sym, subst, ap, inl, inr, arith}
use Rattle.std.specs.Prelude.{Contains, IfNone, IfOk, nat_lt, slice_get}
use Rattle.std.specs.List.{list_all}
use Rattle.std.proofs.lemmas.Bool.{and_from, and_parts, lt-ltb, ltb-true}
use Rattle.std.proofs.lemmas.Option.{slice_get_within}
use Rattle.graphs.specs.Cycles.{Follows, IsWay}
use Rattle.graphs.specs.Ordering.{HasCycle}
use Rattle.worker_pairing.specs.Events.{IsNumbering, IsOrderable, Needs}
use Rattle.worker_pairing.specs.Faults.{crew_of, kinds_of, rank_in}
use Rattle.worker_pairing.specs.Marks.{Members, Numbered, in_turn}
use Rattle.worker_partners.proofs.Texts.{kind-there}
use Rattle.worker_ranks.specs.inner.Vertices.{falls_from, is_close, vertex_of}
use Rattle.worker_ranks.proofs.Edges.{close-edge, edge-shows}
use Rattle.worker_ranks.proofs.Graphs.{vertex-from}
use Rattle.worker_ranks.proofs.InTurn.{turned, turned-there}
use Rattle.worker_ranks.proofs.Numbered.{Falls, is-numbering}
use Rattle.worker_ranks.proofs.Texts.{turn-from}

-- ---- the test

pub all-there : (p : ℕ → Bool) (ts : List ℕ) (t : ℕ) → list_all p ts ≡ true → Contains ts t → p t ≡ true
all-there p [] t is (k, lt, same) = absurd (omega (arith, lt))
all-there p (x ∷ ts) t is (zero, lt, same) = subst (λ y. p y ≡ true) same (and_parts _ _ is).0
all-there p (x ∷ ts) t is (suc k, lt, same) = all-there p ts t (and_parts _ _ is).1 (k, omega (arith, lt), same)

there-all : (p : ℕ → Bool) (ts : List ℕ) → ((t : ℕ) → Contains ts t → p t ≡ true) → list_all p ts ≡ true
there-all p [] h = refl
there-all p (x ∷ ts) h = and_from _ _ (h x (0, omega arith, refl)) (there-all p ts (λ t c. h t (suc c.0, (let lt = c.1 in omega (arith, lt)), c.2)))

module _ (ranks : List ℕ) where
  abbrev lesser : ℕ → ℕ → Bool
  lesser n t = nat_lt (get_or ranks t 0) (get_or ranks n 0)

  falls-each : (next : List (List ℕ)) (n s t : ℕ) → falls_from ranks n next ≡ true → Contains (get_or next s []) t → get_or ranks t 0 < get_or ranks (n + s) 0
  falls-each [] n s t is (k, lt, same) = absurd (omega (arith, lt))
  falls-each (ts ∷ next) n zero t is c =
      let place : n ≡ n + 0 = omega arith in
      subst (λ m. get_or ranks t 0 < get_or ranks m 0) place (ltb-true _ _ (all-there (lesser n) ts t (and_parts _ _ is).0 c))
  falls-each (ts ∷ next) n (suc s) t is c =
      let place : n + 1 + s ≡ n + suc s = omega arith in
      subst (λ m. get_or ranks t 0 < get_or ranks m 0) place (falls-each next (n + 1) s t (and_parts _ _ is).1 c)

  each-falls : (next : List (List ℕ)) (n : ℕ) → ((s t : ℕ) → Contains (get_or next s []) t → get_or ranks t 0 < get_or ranks (n + s) 0) → falls_from ranks n next ≡ true
  each-falls [] n h = refl
  each-falls (ts ∷ next) n h =
      and_from _ _
      (there-all (lesser n) ts (λ t c. lt-ltb _ _ (subst (λ m. get_or ranks t 0 < get_or ranks m 0) here (h 0 t c))))
      (each-falls next (n + 1) (λ s t c. subst (λ m. get_or ranks t 0 < get_or ranks m 0) (further s) (h (suc s) t c)))
    where
      here : n + 0 ≡ n
      here = omega arith

      further : (s : ℕ) → n + suc s ≡ n + 1 + s
      further s = omega arith

  pub falls-if : (next : List (List ℕ)) → falls_from ranks 0 next ≡ true → Falls next ranks
  falls-if next is s t f = let place : 0 + s ≡ s = omega arith in subst (λ m. get_or ranks t 0 < get_or ranks m 0) place (falls-each next 0 s t is f)

  pub if-falls : (next : List (List ℕ)) → Falls next ranks → falls_from ranks 0 next ≡ true
  if-falls next h = each-falls next 0 (λ s t c. let place : s ≡ 0 + s = omega arith in subst (λ m. get_or ranks t 0 < get_or ranks m 0) place (h s t c))

-- ---- a numbering falls along each edge

module _ (ms : Members) (rank : ℕ → ℕ → ℕ) (is : IsNumbering (crew_of ms) rank) where
  lesser-so : (a b : Numbered) → slice_get (kinds_of ms a.worker) a.number ≡ Some a.saying.kind → ((a.worker ≡ b.worker) × (b.number < a.number)) ⊎ Needs (crew_of ms) a.worker a.number b.worker b.number
      → rank b.worker b.number < rank a.worker a.number
  lesser-so a b there (inl (same, lt)) =
      subst (λ w. rank w b.number < rank a.worker a.number) same
      (is.rises a.worker b.number a.number lt (slice_get_within (kinds_of ms a.worker) a.number a.saying.kind there))
  lesser-so a b there (inr needs) = is.follows a.worker a.number b.worker b.number needs

  -- the events of two numbers, of which the second has the lesser rank
  abbrev pub Lowers : ℕ → ℕ → Type 0
  Lowers s t = (a : Numbered) × (b : Numbered) × (slice_get (in_turn 0 ms) s ≡ Some a) × (slice_get (in_turn 0 ms) t ≡ Some b) × (rank b.worker b.number < rank a.worker a.number)

  pub edge-lowers : (s t : ℕ) → Follows (turned ms) s t → Lowers s t
  edge-lowers s t f =
      let e = turned-there ms s t f in
      let a = vertex-from ms (in_turn 0 ms) s e.0 e.2 in
      let b = vertex-from ms (in_turn 0 ms) t e.1 e.3 in
      let from = turn-from ms s a.0 a.1 in
      let to = turn-from ms t b.0 b.1 in
      let first = kind-there ms a.0.worker a.0.number a.0.saying from.1 in
      let second = kind-there ms b.0.worker b.0.number b.0.saying to.1 in
      let edge = close-edge (vertex_of ms a.0) (vertex_of ms b.0) ((λ i. is_close (sym a.2 i) (sym b.2 i)) ∙ e.4) in
      (a.0, b.0, a.1, b.1, lesser-so a.0 b.0 first (edge-shows (crew_of ms) a.0.worker a.0.number b.0.worker b.0.number b.0.saying.kind second a.0.saying.kind first edge))

  -- the event of a number is one alone
  same-event : (k : ℕ) (a b : Numbered) → slice_get (in_turn 0 ms) k ≡ Some a → slice_get (in_turn 0 ms) k ≡ Some b → rank a.worker a.number ≡ rank b.worker b.number
  same-event k a b first second = let same : a ≡ b = one a b (sym first ∙ second) in ap (λ e. rank e.worker e.number) same
    where
      one : (a b : Numbered) → Some a ≡ Some b → a ≡ b
      one a b e = grind (arith, e)

  way-lowers : (s : ℕ) (ks : List ℕ) (t : ℕ) → IsWay (turned ms) s ks t → Lowers s t
  way-lowers s [] t f = edge-lowers s t f
  way-lowers s (k ∷ ks) t (f, rest) =
      let first = edge-lowers s k f in
      let more = way-lowers k ks t rest in
      let lower = first.4 in
      let least = more.4 in
      let between = same-event k first.1 more.0 first.3 more.2 in
      (first.0, more.1, first.2, more.3, omega (arith, lower, least, between))

  pub no-cycle : HasCycle (turned ms) → ⊥
  no-cycle (i, cycle) =
      let round = way-lowers i cycle.0 i cycle.1 in
      let lower = round.4 in
      let same = same-event i round.0 round.1 round.2 round.3 in
      absurd (omega (arith, lower, same))

module _ (ms : Members) (ranks : List ℕ) (is : IsNumbering (crew_of ms) (rank_in ms ranks)) where
  numbering-falls : Falls (turned ms) ranks
  numbering-falls s t f =
      let lowers = edge-lowers ms (rank_in ms ranks) is s t f in
      let from = turn-from ms s lowers.0 lowers.2 in
      let to = turn-from ms t lowers.1 lowers.3 in
      subst (λ m. get_or ranks m 0 < get_or ranks s 0) (sym to.0) (subst (λ m. rank_in ms ranks lowers.1.worker lowers.1.number < get_or ranks m 0) (sym from.0) lowers.4)

module _ (ms : Members) (next : List (List ℕ)) (ranks : List ℕ) (b : Bool) (graph : next ≡ turned ms) (test : b ≡ falls_from ranks 0 next) where
  pub rises-if : b ≡ true ↔ IsNumbering (crew_of ms) (rank_in ms ranks)
  rises-if = (
    λ so. is-numbering ms ranks (subst (λ g. Falls g ranks) graph (falls-if ranks next (sym test ∙ so))),
    λ numbering. test ∙ if-falls ranks next (subst (λ g. Falls g ranks) (sym graph) (numbering-falls ms ranks numbering)),
  )

-- ---- where no order was found there is no numbering

module _ (ms : Members) (next : List (List ℕ)) (graph : next ≡ turned ms) where
  cyclic-none : HasCycle next → ¬ IsOrderable (crew_of ms)
  cyclic-none cycle (rank, is) = no-cycle ms rank is (subst HasCycle graph cycle)

  pub none-so : {X Y Z : Type 0} (order : Option X) (r : Result (Option Z) Y) → IfNone order (HasCycle next) → IfOk r (λ found. IfNone found (order ≡ None)) → IfOk r (λ found. IfNone found (¬ IsOrderable (crew_of ms)))
  none-so order (Ok None) cyclic none = cyclic-none (subst (λ o. IfNone o (HasCycle next)) none cyclic)
  none-so order (Ok (Some ranks)) cyclic none = tt
  none-so order (Err e) cyclic none = tt
