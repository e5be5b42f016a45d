-- The graph of what is close to each event of workers in turn has just the close edges.
use Rattle.std.proofs.Common.{◌≡◌, ◌∙◌, ◌<◌, ◌⊎◌, ◌+◌, ◌-◌, ◌++◌, ◌==◌, ℕ, zero, suc, Bool, true, false, List, [], ◌∷◌, Option, Some, None, map, get_or, length, refl, sym, subst, ap, inl, inr, arith}
use Rattle.std.specs.Prelude.{◌&&◌, Contains, if◌then◌else◌, nat_lt, option_map, slice_get}
use Rattle.std.proofs.lemmas.Bool.{and_from, and_parts, eq-eqb, eqb-true, false_from_ne_true, false≢true, lt-ltb, ltb-true, or_cases, or_left, or_right}
use Rattle.std.proofs.lemmas.List.{append_assoc, length-map, map-append}
use Rattle.std.proofs.lemmas.Option.{slice_get-get_or, slice_get-map, slice_get_within}
use Rattle.typed_tree.specs.declared.event.EventKind.{EventKind}
use Rattle.typed_tree.specs.declared.event.EventKind.TheVariants.{Send, Post, Done, Receive, Flush, Wait, End}
use Rattle.graphs.specs.Cycles.{Follows}
use Rattle.graphs.specs.Ordering.{IsInside}
use Rattle.worker_pairing.specs.Faults.{crew_of, kinds_of, start_of}
use Rattle.worker_pairing.specs.Marks.{Members, Saying, in_turn, numbered_from}
use Rattle.worker_pairing.proofs.Paired.{before-others, behind, in-front}
use Rattle.worker_partners.specs.Partners.{sayings_of}
use Rattle.worker_partners.proofs.Texts.{kind-there, kinds-said-of, numbered}
use Rattle.worker_ranks.specs.inner.Vertices.{Vertex, is_among, is_close, needs_other, passing, vertex_at, vertex_of}
use Rattle.worker_ranks.specs.inner.Turned.{AreGroups, AreOf, close_row, close_rows, laid, may_need, turned_from}
use Rattle.worker_ranks.proofs.Graphs.{passing-has, passing-shows, vertex-from, vertex-has}
use Rattle.worker_ranks.proofs.Texts.{turn-at, turn-from}

-- ---- groups

module _ (ms : Members) where
  pub laid-turned : (w : ℕ) (more : Members) → laid (turned_from ms w more) ≡ map (vertex_of ms) (in_turn w more)
  laid-turned w [] = refl
  laid-turned w (m ∷ more) =
      ap (λ l. map (vertex_of ms) (numbered_from w 0 m.sayings) ++ l) (laid-turned (w + 1) more)
      ∙ sym (map-append (vertex_of ms) (numbered_from w 0 m.sayings) (in_turn (w + 1) more))

  numbered-of : (w n : ℕ) (ss : List Saying) → AreOf w (map (vertex_of ms) (numbered_from w n ss))
  numbered-of w n [] = tt
  numbered-of w n (s ∷ ss) = (refl, numbered-of w (n + 1) ss)

  pub groups-turned : (w : ℕ) (more : Members) → AreGroups w (turned_from ms w more)
  groups-turned w [] = tt
  groups-turned w (m ∷ more) = (numbered-of w 0 m.sayings, groups-turned (w + 1) more)

-- ---- an event that needs none of a worker

pub may-so : (k : EventKind) (a b : Vertex) → needs_other k a b ≡ true → may_need k b.worker ≡ true
may-so (Receive (Some v)) a b is = eq-eqb v b.worker (sym (eqb-true b.worker v (and_parts _ _ is).0))
may-so (Done (Some v)) a b is = eq-eqb v b.worker (sym (eqb-true b.worker v (and_parts _ _ is).0))
may-so (Flush (Some v)) a b is = eq-eqb v b.worker (sym (eqb-true b.worker v (and_parts _ _ is).0))
may-so (Wait us) a b is = (and_parts b.last (is_among us b.worker) is).1
may-so (Receive None) a b is = absurd (false≢true is)
may-so (Done None) a b is = absurd (false≢true is)
may-so (Flush None) a b is = absurd (false≢true is)
may-so (Send peer) a b is = absurd (false≢true is)
may-so (Post peer) a b is = absurd (false≢true is)
may-so End a b is = absurd (false≢true is)

pub none-needed : (a : Vertex) (w n : ℕ) (bs : List Vertex) → may_need a.kind w ≡ false → AreOf w bs → passing (needs_other a.kind a) n bs ≡ []
none-needed a w n [] off of = refl
none-needed a w n (b ∷ bs) off (same, rest) = (λ i. (if not-this i then n ∷ [] else []) ++ none-needed a w (n + 1) bs off rest i)
  where
    not-this : needs_other a.kind a b ≡ false
    not-this = false_from_ne_true (needs_other a.kind a b) (λ is. false≢true (sym off ∙ ap (may_need a.kind) (sym same) ∙ may-so a.kind a b is))

-- ---- one list behind another

pub passing-two : (test : Vertex → Bool) (n : ℕ) (xs ys : List Vertex) (m : ℕ) → m ≡ n + length xs → passing test n (xs ++ ys) ≡ passing test n xs ++ passing test m ys
passing-two test n [] ys m e = let same : n ≡ m = omega (arith, e) in ap (λ k. passing test k ys) same
passing-two test n (x ∷ xs) ys m e =
    ap (λ l. (if test x then n ∷ [] else []) ++ l) (passing-two test (n + 1) xs ys m (omega (arith, e)))
    ∙ sym (append_assoc (if test x then n ∷ [] else []) (passing test (n + 1) xs) (passing test m ys))

pub rows-two : (vs : List Vertex) (n : ℕ) (xs ys : List Vertex) (m : ℕ) → m ≡ n + length xs → close_rows vs n (xs ++ ys) ≡ close_rows vs n xs ++ close_rows vs m ys
rows-two vs n [] ys m e = let same : n ≡ m = omega (arith, e) in ap (λ k. close_rows vs k ys) same
rows-two vs n (x ∷ xs) ys m e = ap (λ l. close_row vs n x ∷ l) (rows-two vs (n + 1) xs ys m (omega (arith, e)))

-- ---- rows

rows-long : (vs : List Vertex) (n : ℕ) (xs : List Vertex) → length (close_rows vs n xs) ≡ length xs
rows-long vs n [] = refl
rows-long vs n (x ∷ xs) = ap suc (rows-long vs (n + 1) xs)

rows-there : (vs : List Vertex) (n : ℕ) (xs : List Vertex) (s t : ℕ) → Contains (get_or (close_rows vs n xs) s []) t → (a : Vertex) × (slice_get xs s ≡ Some a) × Contains (close_row vs (n + s) a) t
rows-there vs n [] s t (i, lt, same) = absurd (omega (arith, lt))
rows-there vs n (a ∷ xs) zero t c = let place : n ≡ n + 0 = omega arith in (a, refl, subst (λ k. Contains (close_row vs k a) t) place c)
rows-there vs n (a ∷ xs) (suc s) t c =
    let more = rows-there vs (n + 1) xs s t c in
    let place : n + 1 + s ≡ n + suc s = omega arith in
    (more.0, more.1, subst (λ k. Contains (close_row vs k more.0) t) place more.2)

rows-has : (vs : List Vertex) (n : ℕ) (xs : List Vertex) (s t : ℕ) (a : Vertex) → slice_get xs s ≡ Some a → Contains (close_row vs (n + s) a) t → Contains (get_or (close_rows vs n xs) s []) t
rows-has vs n [] s t a at c = absurd (grind (arith, at))
rows-has vs n (x ∷ xs) zero t a at c =
    let same : a ≡ x = grind (arith, at) in
    let place : n + 0 ≡ n = omega arith in
    subst (λ y. Contains (close_row vs n y) t) same (subst (λ k. Contains (close_row vs k a) t) place c)
rows-has vs n (x ∷ xs) (suc s) t a at c =
    let place : n + suc s ≡ n + 1 + s = omega arith in
    rows-has vs (n + 1) xs s t a at (subst (λ k. Contains (close_row vs k a) t) place c)

in-either : (xs ys : List ℕ) (t : ℕ) → Contains (xs ++ ys) t → Contains xs t ⊎ Contains ys t
in-either [] ys t c = inr c
in-either (x ∷ xs) ys t (zero, lt, same) = inl (0, omega arith, same)
in-either (x ∷ xs) ys t (suc k, lt, same) = by (in-either xs ys t (k, omega (arith, lt), same))
  where
    by : Contains xs t ⊎ Contains ys t → Contains (x ∷ xs) t ⊎ Contains ys t
    by (inl c) = inl (in-front x xs t c)
    by (inr c) = inr c

first-there : (b : Bool) (k t : ℕ) → Contains (if b then k ∷ [] else []) t → (b ≡ true) × (t ≡ k)
first-there true k t (zero, lt, same) = (refl, sym same)
first-there true k t (suc i, lt, same) = absurd (omega (arith, lt))
first-there false k t (i, lt, same) = absurd (omega (arith, lt))

first-has : (b : Bool) (k t : ℕ) → b ≡ true → t ≡ k → Contains (if b then k ∷ [] else []) t
first-has b k t is same = subst (λ v. Contains (if v then k ∷ [] else []) t) (sym is) (0, omega arith, sym same)

-- ---- events in turn

module _ (ms : Members) where
  abbrev pub vs : List Vertex
  vs = map (vertex_of ms) (in_turn 0 ms)

  abbrev pub turned : List (List ℕ)
  turned = close_rows vs 0 vs

  -- an event that is there has its place
  pub vertex-there : (w i : ℕ) → i < length (kinds_of ms w) → (kind : EventKind) × (slice_get (kinds_of ms w) i ≡ Some kind) × (slice_get vs (start_of ms w + i) ≡ Some (vertex_at (crew_of ms) w i kind))
  vertex-there w i lt = said (slice_get (sayings_of ms w) i) refl
    where
      kinds-at : slice_get (kinds_of ms w) i ≡ option_map (λ s. s.kind) (slice_get (sayings_of ms w) i)
      kinds-at = ap (λ es. slice_get es i) (kinds-said-of ms w) ∙ slice_get-map (λ s. s.kind) (sayings_of ms w) i

      nothing : {e : EventKind} → Some e ≡ None → ⊥
      nothing e = grind (arith, e)

      said : (o : Option Saying) → slice_get (sayings_of ms w) i ≡ o → (kind : EventKind) × (slice_get (kinds_of ms w) i ≡ Some kind) × (slice_get vs (start_of ms w + i) ≡ Some (vertex_at (crew_of ms) w i kind))
      said (Some s) at =
          let worker : 0 + w ≡ w = omega arith in (
            s.kind,
            kinds-at ∙ ap (option_map (λ s. s.kind)) at,
            vertex-has ms (in_turn 0 ms) (start_of ms w + i) (numbered w i s) (turn-at 0 ms w i s at ∙ ap (λ v. Some (numbered v i s)) worker),
          )
      said None at = absurd (nothing (sym (slice_get-get_or (kinds_of ms w) i End lt) ∙ kinds-at ∙ ap (option_map (λ s. s.kind)) at))

  -- where a vertex stands
  abbrev StandsSo : ℕ → Vertex → Type 0
  StandsSo s a = (s ≡ start_of ms a.worker + a.number) × (a.number < length (kinds_of ms a.worker))

  stands-so : (s : ℕ) (a : Vertex) → slice_get vs s ≡ Some a → StandsSo s a
  stands-so s a at =
      let e = vertex-from ms (in_turn 0 ms) s a at in
      let place = turn-from ms s e.0 e.1 in
      subst (StandsSo s) (sym e.2) (place.0, slice_get_within (kinds_of ms e.0.worker) e.0.number e.0.saying.kind (kind-there ms e.0.worker e.0.number e.0.saying place.1))

  abbrev IsEdge : ℕ → ℕ → Type 0
  IsEdge s t = (a : Vertex) × (b : Vertex) × (slice_get vs s ≡ Some a) × (slice_get vs t ≡ Some b) × (is_close a b ≡ true)

  before-there : (s t : ℕ) (a : Vertex) → slice_get vs s ≡ Some a → 0 < a.number → t ≡ s - 1 → IsEdge s t
  before-there s t a from more same =
      let stands = stands-so s a from in
      let place = stands.0 in
      let inside = stands.1 in
      let b = vertex-there a.worker (a.number - 1) (omega (arith, inside, more)) in
      let here : start_of ms a.worker + (a.number - 1) ≡ t = omega (arith, place, more, same) in
      let next : a.number - 1 + 1 ≡ a.number = omega (arith, more) in (
        a,
        vertex_at (crew_of ms) a.worker (a.number - 1) b.0,
        from,
        ap (slice_get vs) (sym here) ∙ b.2,
        or_left _ _ (and_from _ _ (eq-eqb a.worker a.worker refl) (eq-eqb (a.number - 1 + 1) a.number next)),
      )

  pub turned-there : (s t : ℕ) → Follows turned s t → IsEdge s t
  turned-there s t f =
      let row = rows-there vs 0 vs s t f in
      let place : 0 + s ≡ s = omega arith in
      by row.0 row.1
      (in-either (if nat_lt 0 row.0.number then (s - 1) ∷ [] else []) (passing (needs_other row.0.kind row.0) 0 vs) t (subst (λ k. Contains (close_row vs k row.0) t) place row.2))
    where
      by : (a : Vertex) → slice_get vs s ≡ Some a → Contains (if nat_lt 0 a.number then (s - 1) ∷ [] else []) t ⊎ Contains (passing (needs_other a.kind a) 0 vs) t → IsEdge s t
      by a from (inl c) =
          let is = first-there (nat_lt 0 a.number) (s - 1) t c in
          before-there s t a from (ltb-true 0 a.number is.0) is.1
      by a from (inr c) =
          let found = passing-shows (needs_other a.kind a) 0 vs t c in
          let place : found.0 ≡ t = let e = found.1 in omega (arith, e) in
          (a, found.2, from, ap (slice_get vs) (sym place) ∙ found.3, or_right _ _ found.4)

  pub turned-has : (s t : ℕ) (a b : Vertex) → slice_get vs s ≡ Some a → slice_get vs t ≡ Some b → is_close a b ≡ true → Follows turned s t
  turned-has s t a b from to is =
      let place : s ≡ 0 + s = omega arith in
      rows-has vs 0 vs s t a from (subst (λ k. Contains (close_row vs k a) t) place (by (or_cases _ _ is)))
    where
      by : (((a.worker == b.worker) && (b.number + 1 == a.number)) ≡ true) ⊎ (needs_other a.kind a b ≡ true) → Contains (close_row vs s a) t
      by (inl step) =
          let parts = and_parts _ _ step in
          let worker : a.worker ≡ b.worker = eqb-true a.worker b.worker parts.0 in
          let next : b.number + 1 ≡ a.number = eqb-true (b.number + 1) a.number parts.1 in
          let first = (stands-so s a from).0 in
          let second = (stands-so t b to).0 in
          let start : start_of ms a.worker ≡ start_of ms b.worker = ap (start_of ms) worker in
          let more : 0 < a.number = omega (arith, next) in
          before-others (if nat_lt 0 a.number then (s - 1) ∷ [] else []) (passing (needs_other a.kind a) 0 vs) t
          (first-has (nat_lt 0 a.number) (s - 1) t (lt-ltb 0 a.number more) (omega (arith, first, second, start, next)))
      by (inr needs) =
          let place : 0 + t ≡ t = omega arith in
          behind (if nat_lt 0 a.number then (s - 1) ∷ [] else []) (passing (needs_other a.kind a) 0 vs) t
          (subst (Contains (passing (needs_other a.kind a) 0 vs)) place (passing-has (needs_other a.kind a) 0 vs t b to needs))

  -- the rows of groups that are those of the workers
  pub turned-so : (gs : List (List Vertex)) → gs ≡ turned_from ms 0 ms → close_rows (laid gs) 0 (laid gs) ≡ turned
  turned-so gs is = ap (λ xs. close_rows xs 0 xs) (ap laid is ∙ laid-turned ms 0 ms)

  pub turned-long : length turned ≡ length (in_turn 0 ms)
  turned-long = rows-long vs 0 vs ∙ length-map (in_turn 0 ms) (vertex_of ms)

  pub turned-inside : IsInside turned
  turned-inside s t f =
      let e = turned-there s t f in
      let lt = slice_get_within vs t e.1 e.3 in
      let long = rows-long vs 0 vs in
      omega (arith, lt, long)
