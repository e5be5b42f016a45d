-- Vertices by neighbours of one worker.
use Rattle.std.specs.Prelude.{◌≡◌, ◌++◌, ◌||◌, ◌==◌, ℕ, Bool, false, List, [], ◌∷◌, ⊤}
use Rattle.worker_ranks.specs.inner.Turned.{AreOf, laid, may_need}
use Rattle.worker_ranks.specs.inner.Vertices.{Vertex}

-- all of these are of one worker
abbrev pub IsRun : List Vertex → Type 0
IsRun [] = ⊤
IsRun (b ∷ bs) = AreOf b.worker (b ∷ bs)

abbrev pub AreRuns : List (List Vertex) → Type 0
AreRuns [] = ⊤
AreRuns (g ∷ gs) = IsRun g × AreRuns gs

-- the first of these is of the worker
abbrev pub begins_with : ℕ → List Vertex → Bool
begins_with w [] = false
begins_with w (b ∷ bs) = b.worker == w

-- runs with one vertex more behind all others
abbrev pub IsGrown : List (List Vertex) → List (List Vertex) → Vertex → Type 0
IsGrown old new v = AreRuns old → AreRuns new × (laid new ≡ laid old ++ v ∷ [])

-- an edge may go from this one to one of the worker
abbrev pub may_lead : Vertex → ℕ → Bool
may_lead a w = (a.worker == w) || may_need a.kind w
