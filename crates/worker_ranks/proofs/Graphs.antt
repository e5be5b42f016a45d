-- The graph of vertices has the edges of the definition.
use Rattle.std.proofs.Common.{◌≡◌, ◌∙◌, ◌<◌, ◌⊎◌, ◌+◌, ◌++◌, ℕ, zero, suc, Bool, true, false, List, [], ◌∷◌, Option, Some, None, map, get_or, refl, sym, subst, ap, arith}
use Rattle.std.specs.Prelude.{Contains, IsSomeAnd, if◌then◌else◌, option_map, slice_get}
use Rattle.std.proofs.lemmas.List.{length-map}
use Rattle.std.proofs.lemmas.Option.{get_or_from_slice_get, slice_get-map, slice_get_within}
use Rattle.graphs.specs.Cycles.{Follows}
use Rattle.graphs.specs.Ordering.{IsInside}
use Rattle.worker_pairing.specs.Events.{Needs}
use Rattle.worker_pairing.specs.Faults.{IsGraphOf, crew_of}
use Rattle.worker_pairing.specs.Marks.{Members, Numbered, in_text}
use Rattle.worker_pairing.proofs.Paired.{behind}
use Rattle.worker_ranks.specs.inner.Vertices.{Vertex, graph_by, graph_of, is_edge, passing, vertex_of}
use Rattle.worker_ranks.proofs.Edges.{edge-shows, shows-edge}
use Rattle.worker_ranks.proofs.Texts.{IsThere, text-there}

-- ---- what is there, and passes

pub some-is : {X : Type 0} (P : X → Type 0) (o : Option X) → IsSomeAnd o P → (x : X) × (o ≡ Some x) × P x
some-is P (Some x) h = (x, refl, h)
some-is P None h = absurd h

pub is-some : {X : Type 0} (P : X → Type 0) (o : Option X) (x : X) → o ≡ Some x → P x → IsSomeAnd o P
is-some P o x e h = subst (λ p. IsSomeAnd p P) (sym e) h

module _ (test : Vertex → Bool) where
  abbrev one : Bool → ℕ → List ℕ
  one b n = if b then n ∷ [] else []

  abbrev Shown : List Vertex → ℕ → ℕ → Type 0
  Shown bs n t = (k : ℕ) × (t ≡ n + k) × (b : Vertex) × (slice_get bs k ≡ Some b) × (test b ≡ true)

  -- a number that stands there is that of one that passes
  pub passing-shows : (n : ℕ) (bs : List Vertex) (t : ℕ) → Contains (passing test n bs) t → Shown bs n t
  passing-shows n [] t (i, lt, same) = absurd (omega (arith, lt))
  passing-shows n (b ∷ bs) t c = by (test b) refl c (passing-shows (n + 1) bs t)
    where
      later : ((k : ℕ) × (t ≡ n + 1 + k) × (b' : Vertex) × (slice_get bs k ≡ Some b') × (test b' ≡ true)) → Shown (b ∷ bs) n t
      later (k, e, b', at, is) = (suc k, omega (arith, e), b', at, is)

      first : test b ≡ true → Contains (n ∷ passing test (n + 1) bs) t → (Contains (passing test (n + 1) bs) t → Shown bs (n + 1) t) → Shown (b ∷ bs) n t
      first is (zero, lt, same) more = (0, omega (arith, same), b, refl, is)
      first is (suc i, lt, same) more = later (more (i, omega (arith, lt), same))

      by : (v : Bool) → test b ≡ v → Contains (one (test b) n ++ passing test (n + 1) bs) t → (Contains (passing test (n + 1) bs) t → Shown bs (n + 1) t) → Shown (b ∷ bs) n t
      by true is c more = first is (subst (λ v. Contains (one v n ++ passing test (n + 1) bs) t) is c) more
      by false off c more = later (more (subst (λ v. Contains (one v n ++ passing test (n + 1) bs) t) off c))

  pub passing-has : (n : ℕ) (bs : List Vertex) (k : ℕ) (b : Vertex) → slice_get bs k ≡ Some b → test b ≡ true → Contains (passing test n bs) (n + k)
  passing-has n [] k b at is = absurd (grind (arith, at))
  passing-has n (x ∷ bs) zero b at is =
      let same : x ≡ b = grind (arith, at) in
      subst (λ v. Contains (one v n ++ passing test (n + 1) bs) (n + 0)) (sym (ap test same ∙ is)) (0, omega arith, omega arith)
  passing-has n (x ∷ bs) (suc k) b at is =
      let e : n + 1 + k ≡ n + suc k = omega arith in
      behind (one (test x) n) (passing test (n + 1) bs) (n + suc k) (subst (Contains (passing test (n + 1) bs)) e (passing-has (n + 1) bs k b at is))

-- ---- rows

row-there : (f : Vertex → List ℕ) (vs : List Vertex) (s t : ℕ) → Contains (get_or (map f vs) s []) t → (a : Vertex) × (slice_get vs s ≡ Some a) × Contains (f a) t
row-there f [] s t (i, lt, same) = absurd (omega (arith, lt))
row-there f (a ∷ vs) zero t c = (a, refl, c)
row-there f (a ∷ vs) (suc s) t c = row-there f vs s t c

row-has : (f : Vertex → List ℕ) (vs : List Vertex) (s t : ℕ) (a : Vertex) → slice_get vs s ≡ Some a → Contains (f a) t → Contains (get_or (map f vs) s []) t
row-has f [] s t a at c = absurd (grind (arith, at))
row-has f (x ∷ vs) zero t a at c = subst (λ y. Contains (f y) t) (same at) c
  where
    same : Some x ≡ Some a → a ≡ x
    same e = grind (arith, e)
row-has f (x ∷ vs) (suc s) t a at c = row-has f vs s t a at c

module _ (edge : Vertex → Vertex → Bool) (vs : List Vertex) where
  pub edge-there : (s t : ℕ) → Follows (graph_by edge vs) s t → (a : Vertex) × (b : Vertex) × (slice_get vs s ≡ Some a) × (slice_get vs t ≡ Some b) × (edge a b ≡ true)
  edge-there s t f =
      let row = row-there (λ a. passing (edge a) 0 vs) vs s t f in
      let found = passing-shows (edge row.0) 0 vs t row.2 in
      let place : found.0 ≡ t = let e = found.1 in omega (arith, e) in
      (row.0, found.2, row.1, ap (slice_get vs) (sym place) ∙ found.3, found.4)

  pub edge-has : (s t : ℕ) (a b : Vertex) → slice_get vs s ≡ Some a → slice_get vs t ≡ Some b → edge a b ≡ true → Follows (graph_by edge vs) s t
  edge-has s t a b from to is =
      let place : 0 + t ≡ t = omega arith in
      row-has (λ a. passing (edge a) 0 vs) vs s t a from (subst (Contains (passing (edge a) 0 vs)) place (passing-has (edge a) 0 vs t b to is))

  pub graph-inside : IsInside (graph_by edge vs)
  graph-inside s t f =
      let e = edge-there s t f in
      let lt = slice_get_within vs t e.1 e.3 in
      let long = length-map vs (λ a. passing (edge a) 0 vs) in
      omega (arith, lt, long)

-- ---- events as vertices

module _ (ms : Members) (xs : List Numbered) where
  pub vertex-from : (s : ℕ) (v : Vertex) → slice_get (map (vertex_of ms) xs) s ≡ Some v → (e : Numbered) × (slice_get xs s ≡ Some e) × (v ≡ vertex_of ms e)
  vertex-from s v at = by (slice_get xs s) refl
    where
      by : (o : Option Numbered) → slice_get xs s ≡ o → (e : Numbered) × (slice_get xs s ≡ Some e) × (v ≡ vertex_of ms e)
      by (Some e) is =
          let here : Some v ≡ Some (vertex_of ms e) = sym at ∙ slice_get-map (vertex_of ms) xs s ∙ ap (option_map (vertex_of ms)) is in
          (e, is, same v (vertex_of ms e) here)
        where
          same : (v w : Vertex) → Some v ≡ Some w → v ≡ w
          same v w e = grind (arith, e)
      by None is = absurd (nothing v (sym at ∙ slice_get-map (vertex_of ms) xs s ∙ ap (option_map (vertex_of ms)) is))
        where
          nothing : (v : Vertex) → Some v ≡ None → ⊥
          nothing v e = grind (arith, e)

  pub vertex-has : (s : ℕ) (e : Numbered) → slice_get xs s ≡ Some e → slice_get (map (vertex_of ms) xs) s ≡ Some (vertex_of ms e)
  vertex-has s e at = slice_get-map (vertex_of ms) xs s ∙ ap (option_map (vertex_of ms)) at

-- ---- the graph of the text

module _ (ms : Members) where
  abbrev text : List Numbered
  text = in_text ms

  abbrev Edge : Numbered → Numbered → Type 0
  Edge a b = ((a.worker ≡ b.worker) × (b.number < a.number)) ⊎ Needs (crew_of ms) a.worker a.number b.worker b.number

  pub there-at : (s : ℕ) (e : Numbered) → slice_get text s ≡ Some e → IsThere ms e
  there-at s e at = subst (IsThere ms) (get_or_from_slice_get text s e e at) (text-there ms s e (slice_get_within text s e at))

  graph-shows : (s t : ℕ) → Follows (graph_of (map (vertex_of ms) text)) s t → IsSomeAnd (slice_get text s) (λ a. IsSomeAnd (slice_get text t) (λ b. Edge a b))
  graph-shows s t f =
      let e = edge-there is_edge (map (vertex_of ms) text) s t f in
      let a = vertex-from ms text s e.0 e.2 in
      let b = vertex-from ms text t e.1 e.3 in
      let is = (λ i. is_edge (sym a.2 i) (sym b.2 i)) ∙ e.4 in
      is-some _ (slice_get text s) a.0 a.1
      (is-some (λ b'. Edge a.0 b') (slice_get text t) b.0 b.1
      (edge-shows (crew_of ms) a.0.worker a.0.number b.0.worker b.0.number b.0.saying.kind (there-at t b.0 b.1) a.0.saying.kind (there-at s a.0 a.1) is))

  graph-has : (s t : ℕ) → IsSomeAnd (slice_get text s) (λ a. IsSomeAnd (slice_get text t) (λ b. Edge a b)) → Follows (graph_of (map (vertex_of ms) text)) s t
  graph-has s t h =
      let a = some-is (λ a. IsSomeAnd (slice_get text t) (λ b. Edge a b)) (slice_get text s) h in
      let b = some-is (λ b. Edge a.0 b) (slice_get text t) a.2 in
      edge-has is_edge (map (vertex_of ms) text) s t (vertex_of ms a.0) (vertex_of ms b.0) (vertex-has ms text s a.0 a.1) (vertex-has ms text t b.0 b.1)
      (shows-edge (crew_of ms) a.0.worker a.0.number b.0.worker b.0.number b.0.saying.kind (there-at t b.0 b.1) a.0.saying.kind (there-at s a.0 a.1) b.2)

  pub is-graph : IsGraphOf ms (graph_of (map (vertex_of ms) text))
  is-graph =
      record {
        long = length-map (map (vertex_of ms) text) (λ a. passing (is_edge a) 0 (map (vertex_of ms) text)) ∙ length-map text (vertex_of ms);
        edges = λ s t. (graph-shows s t, graph-has s t);
      }
