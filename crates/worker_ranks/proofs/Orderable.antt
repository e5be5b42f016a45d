-- Where no event of the text lies on a cycle of close edges there is a numbering.
use Rattle.std.proofs.Common.{◌≡◌, ◌∙◌, ℕ, List, [], ◌∷◌, Option, Some, None, map, refl, sym, arith}
use Rattle.std.specs.Prelude.{slice_get}
use Rattle.graphs.specs.Cycles.{Follows, IsOnCycle, IsWay}
use Rattle.worker_pairing.specs.Events.{IsOrderable}
use Rattle.worker_pairing.specs.Faults.{crew_of, rank_in}
use Rattle.worker_pairing.specs.Marks.{Members, Numbered, in_text, in_turn}
use Rattle.worker_ranks.specs.inner.Vertices.{Vertex, close_of, is_close, vertex_of}
use Rattle.worker_ranks.proofs.Acyclic.{depths, depths-fall}
use Rattle.worker_ranks.proofs.Graphs.{edge-has, vertex-from, vertex-has}
use Rattle.worker_ranks.proofs.InTurn.{turned, turned-inside, turned-there}
use Rattle.worker_ranks.proofs.Numbered.{is-numbering}
use Rattle.worker_ranks.proofs.Texts.{turn-in-text}

-- ---- from the events in turn to those of the text

module _ (ms : Members) where
  abbrev text : List Numbered
  text = in_text ms

  abbrev vs : List Vertex
  vs = map (vertex_of ms) text

  abbrev place-of : (s : ℕ) (o : Option Numbered) → slice_get (in_turn 0 ms) s ≡ o → ℕ
  place-of s (Some e) at = (turn-in-text ms s e at).0
  place-of s None at = 0

  abbrev to-text : ℕ → ℕ
  to-text s = place-of s (slice_get (in_turn 0 ms) s) refl

  text-at : (s : ℕ) (e : Numbered) → slice_get (in_turn 0 ms) s ≡ Some e → slice_get text (to-text s) ≡ Some e
  text-at s e at = by (slice_get (in_turn 0 ms) s) refl
    where
      nothing : (e : Numbered) → Some e ≡ None → ⊥
      nothing e same = grind (arith, same)

      by : (o : Option Numbered) (is : slice_get (in_turn 0 ms) s ≡ o) → slice_get text (place-of s o is) ≡ Some e
      by (Some x) is = (turn-in-text ms s x is).1 ∙ sym is ∙ at
      by None is = absurd (nothing e (sym at ∙ is))

  step-text : (s t : ℕ) → Follows (turned ms) s t → Follows (close_of vs) (to-text s) (to-text t)
  step-text s t f =
      let e = turned-there ms s t f in
      let a = vertex-from ms (in_turn 0 ms) s e.0 e.2 in
      let b = vertex-from ms (in_turn 0 ms) t e.1 e.3 in
      edge-has is_close vs (to-text s) (to-text t) (vertex_of ms a.0) (vertex_of ms b.0) (vertex-has ms text (to-text s) a.0 (text-at s a.0 a.1)) (vertex-has ms text (to-text t) b.0 (text-at t b.0 b.1))
      ((λ i. is_close (sym a.2 i) (sym b.2 i)) ∙ e.4)

  way-text : (s : ℕ) (ks : List ℕ) (t : ℕ) → IsWay (turned ms) s ks t → IsWay (close_of vs) (to-text s) (map to-text ks) (to-text t)
  way-text s [] t f = step-text s t f
  way-text s (k ∷ ks) t (f, rest) = (step-text s k f, way-text k ks t rest)

  pub acyclic-orderable : ((i : ℕ) → ¬ IsOnCycle (close_of vs) i) → IsOrderable (crew_of ms)
  acyclic-orderable none =
      let so : (i : ℕ) → ¬ IsOnCycle (turned ms) i = λ i cycle. none (to-text i) (map to-text cycle.0, way-text i cycle.0 i cycle.1) in
      (rank_in ms (depths (turned ms) (turned-inside ms) so), is-numbering ms (depths (turned ms) (turned-inside ms) so) (depths-fall (turned ms) (turned-inside ms) so))
