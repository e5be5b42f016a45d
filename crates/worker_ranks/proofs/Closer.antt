-- What lies on a cycle of the graph lies on one of the graph by close edges, which leads along the events between.
use Rattle.std.proofs.Common.{◌≡◌, ◌∙◌, ◌<◌, ◌⊎◌, ◌+◌, ◌-◌, ◌++◌, ◌==◌, ℕ, zero, suc, true, List, [], ◌∷◌, Some, map, length, sym, subst, ap, inl, inr, arith}
use Rattle.std.specs.Prelude.{◌&&◌, nat_lt, slice_get}
use Rattle.std.proofs.lemmas.Bool.{and_from, and_parts, eq-eqb, eqb-true, ltb-true, or_cases, or_left, or_right}
use Rattle.std.proofs.lemmas.Option.{slice_get_within}
use Rattle.graphs.specs.Cycles.{IsOnCycle, IsWay, Follows}
use Rattle.worker_pairing.specs.Faults.{kinds_of, start_of}
use Rattle.worker_pairing.specs.Marks.{Members, Numbered, in_text, in_turn}
use Rattle.worker_ranks.specs.inner.Vertices.{IsNoneBefore, Vertex, close_of, graph_of, is_close, is_edge, needs_other, vertex_of}
use Rattle.worker_ranks.proofs.Edges.{close-edge}
use Rattle.worker_ranks.proofs.Graphs.{edge-has, edge-there, there-at, vertex-from, vertex-has}
use Rattle.worker_ranks.proofs.InTurn.{vertex-there}
use Rattle.worker_ranks.proofs.NotOnCycle.{way-on}
use Rattle.worker_ranks.proofs.Texts.{turn-in-text}

-- ---- ways in place of edges

module _ (next close : List (List ℕ)) (led : (s t : ℕ) → Follows next s t → (between : List ℕ) × IsWay close s between t) where
  way-led : (s : ℕ) (ks : List ℕ) (t : ℕ) → IsWay next s ks t → (between : List ℕ) × IsWay close s between t
  way-led s [] t edge = led s t edge
  way-led s (k ∷ ks) t (edge, rest) =
      let first = led s k edge in
      let more = way-led k ks t rest in
      (first.0 ++ k ∷ more.0, way-on close s first.0 k more.0 t first.1 more.1)

  pub none-led : (n : ℕ) → IsNoneBefore close n → IsNoneBefore next n
  none-led n none i lt cycle = none i lt (way-led i cycle.0 i cycle.1)

-- ---- the events between

module _ (ms : Members) where
  abbrev text : List Numbered
  text = in_text ms

  abbrev vs : List Vertex
  vs = map (vertex_of ms) text

  abbrev IsAt : ℕ → ℕ → ℕ → Type 0
  IsAt w i t = (e : Numbered) × (slice_get text t ≡ Some e) × (w ≡ e.worker) × (i ≡ e.number)

  -- each event of a worker stands in the text
  stands : (w i : ℕ) → i < length (kinds_of ms w) → (t : ℕ) × IsAt w i t
  stands w i lt =
      let vertex = vertex-there ms w i lt in
      let event = vertex-from ms (in_turn 0 ms) (start_of ms w + i) _ vertex.2 in
      let there = turn-in-text ms (start_of ms w + i) event.0 event.1 in
      (there.0, (event.0, there.1, ap (λ v. v.worker) event.2, ap (λ v. v.number) event.2))

  close-to : (s t : ℕ) (a b : Numbered) → slice_get text s ≡ Some a → slice_get text t ≡ Some b → is_close (vertex_of ms a) (vertex_of ms b) ≡ true → Follows (close_of vs) s t
  close-to s t a b from to is = edge-has is_close vs s t (vertex_of ms a) (vertex_of ms b) (vertex-has ms text s a from) (vertex-has ms text t b to) is

  step-to : (s t : ℕ) (a b : Numbered) → slice_get text s ≡ Some a → slice_get text t ≡ Some b → a.worker ≡ b.worker → b.number + 1 ≡ a.number → Follows (close_of vs) s t
  step-to s t a b from to same next = close-to s t a b from to (or_left _ _ (and_from _ _ (eq-eqb a.worker b.worker same) (eq-eqb (b.number + 1) a.number next)))

  within : (s : ℕ) (a : Numbered) → slice_get text s ≡ Some a → (w : ℕ) → a.worker ≡ w → a.number < length (kinds_of ms w)
  within s a from w same = subst (λ w. a.number < length (kinds_of ms w)) same (slice_get_within (kinds_of ms a.worker) a.number a.saying.kind (there-at ms s a from))

  -- so many stand between
  behind-led : (d s t : ℕ) (a b : Numbered) → slice_get text s ≡ Some a → slice_get text t ≡ Some b → a.worker ≡ b.worker → a.number ≡ b.number + suc d → (between : List ℕ) × IsWay (close_of vs) s between t
  behind-led zero s t a b from to same far = ([], step-to s t a b from to same (omega (arith, far)))
  behind-led (suc d) s t a b from to same far =
      let inside = within s a from b.worker same in
      let mid = stands b.worker (b.number + suc d) (omega (arith, inside, far)) in
      let e = mid.1.0 in
      let number = mid.1.3 in
      let more = behind-led d mid.0 t e b mid.1.1 to (sym mid.1.2) (omega (arith, number)) in
      (mid.0 ∷ more.0, (step-to s mid.0 a e from mid.1.1 (same ∙ mid.1.2) (omega (arith, number, far)), more.1))

  edge-led : (s t : ℕ) → Follows (graph_of vs) s t → (between : List ℕ) × IsWay (close_of vs) s between t
  edge-led s t f =
      let e = edge-there is_edge vs s t f in
      let a = vertex-from ms text s e.0 e.2 in
      let b = vertex-from ms text t e.1 e.3 in
      let is : is_edge (vertex_of ms a.0) (vertex_of ms b.0) ≡ true = (λ i. is_edge (sym a.2 i) (sym b.2 i)) ∙ e.4 in
      by a.0 b.0 a.1 b.1 (or_cases _ _ is)
    where
      by : (a b : Numbered) → slice_get text s ≡ Some a → slice_get text t ≡ Some b → (((a.worker == b.worker) && nat_lt b.number a.number) ≡ true) ⊎ (needs_other a.saying.kind (vertex_of ms a) (vertex_of ms b) ≡ true)
          → (between : List ℕ) × IsWay (close_of vs) s between t
      by a b from to (inl behind) =
          let parts = and_parts _ _ behind in
          let less = ltb-true b.number a.number parts.1 in
          behind-led (a.number - suc b.number) s t a b from to (eqb-true a.worker b.worker parts.0) (omega (arith, less))
      by a b from to (inr needs) = ([], close-to s t a b from to (or_right _ _ needs))

  pub none-before : (n : ℕ) → IsNoneBefore (close_of vs) n → IsNoneBefore (graph_of vs) n
  none-before = none-led (graph_of vs) (close_of vs) edge-led

-- ---- and a way of close edges is one of all edges

module _ (vs : List Vertex) where
  edge-wider : (s t : ℕ) → Follows (close_of vs) s t → Follows (graph_of vs) s t
  edge-wider s t f = let e = edge-there is_close vs s t f in edge-has is_edge vs s t e.0 e.1 e.2 e.3 (close-edge e.0 e.1 e.4)

  way-wider : (s : ℕ) (ks : List ℕ) (t : ℕ) → IsWay (close_of vs) s ks t → IsWay (graph_of vs) s ks t
  way-wider s [] t f = edge-wider s t f
  way-wider s (k ∷ ks) t (f, rest) = (edge-wider s k f, way-wider k ks t rest)

  pub on-wider : (i : ℕ) → IsOnCycle (close_of vs) i → IsOnCycle (graph_of vs) i
  on-wider i (ks, way) = (ks, way-wider i ks i way)
