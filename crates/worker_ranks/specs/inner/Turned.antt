-- Vertices of workers in turn, one group a worker, and what is close to each: the one right before it, and those that it needs.
use Rattle.std.specs.Prelude.{◌≡◌, ◌+◌, ◌-◌, ◌++◌, ℕ, Bool, false, List, [], ◌∷◌, Vec, if◌then◌else◌, map, nat_lt, ⊤}
use Rattle.std.specs.Global.{Global}
use Rattle.typed_tree.specs.declared.event.EventKind.{EventKind}
use Rattle.typed_tree.specs.declared.event.EventKind.TheVariants.{Send, Post, Done, Receive, Flush, Wait, End}
use Rattle.worker_pairing.specs.Events.{is_peer}
use Rattle.worker_pairing.specs.Marks.{Members, numbered_from}
use Rattle.worker_ranks.specs.declared.nodes.Node.{Node}
use Rattle.worker_ranks.specs.inner.Vertices.{Vertex, is_among, needs_other, passing, vertex_held, vertex_of}

abbrev pub groups_held : List (Vec Node Global) → List (List Vertex)
groups_held = map (λ g. map vertex_held g.items)

-- the vertices of each of these workers, the first of which has this number
abbrev pub turned_from : Members → ℕ → Members → List (List Vertex)
turned_from ms w [] = []
turned_from ms w (m ∷ more) = map (vertex_of ms) (numbered_from w 0 m.sayings) ∷ turned_from ms (w + 1) more

-- all of them, one group behind another
abbrev pub laid : List (List Vertex) → List Vertex
laid [] = []
laid (g ∷ gs) = g ++ laid gs

abbrev pub AreOf : ℕ → List Vertex → Type 0
AreOf w [] = ⊤
AreOf w (b ∷ bs) = (b.worker ≡ w) × AreOf w bs

-- the groups are those of workers in turn, the first of which has this number
abbrev pub AreGroups : ℕ → List (List Vertex) → Type 0
AreGroups w [] = ⊤
AreGroups w (g ∷ gs) = AreOf w g × AreGroups (w + 1) gs

-- an event of this kind may need one of the worker
abbrev pub may_need : EventKind → ℕ → Bool
may_need (Receive peer) w = is_peer w peer
may_need (Done peer) w = is_peer w peer
may_need (Flush peer) w = is_peer w peer
may_need (Wait us) w = is_among us w
may_need (Send peer) w = false
may_need (Post peer) w = false
may_need End w = false

-- the numbers of those that are close to this one, which has the number
abbrev pub close_row : List Vertex → ℕ → Vertex → List ℕ
close_row vs n a = (if nat_lt 0 a.number then (n - 1) ∷ [] else []) ++ passing (needs_other a.kind a) 0 vs

-- the same of each of these, the first of which has the number
abbrev pub close_rows : List Vertex → ℕ → List Vertex → List (List ℕ)
close_rows vs n [] = []
close_rows vs n (a ∷ rest) = close_row vs n a ∷ close_rows vs (n + 1) rest
