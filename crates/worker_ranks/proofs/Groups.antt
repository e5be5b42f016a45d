-- Groups of workers in turn, one after another.
use Rattle.std.proofs.Common.{◌≡◌, ◌∙◌, ◌<◌, ◌+◌, ◌++◌, ℕ, List, Vec, drop, map, get_or, length, sym, subst, ap, arith}
use Rattle.std.specs.Global.{Global}
use Rattle.std.proofs.lemmas.List.{append_assoc, length-map}
use Rattle.graphs.proofs.Rows.{drop-more}
use Rattle.worker_ranks.specs.declared.nodes.Node.{Node}
use Rattle.worker_ranks.specs.inner.Vertices.{Vertex, vertex_held}
use Rattle.worker_ranks.specs.inner.Turned.{AreGroups, AreOf, groups_held, laid}

module _ (groups : List (Vec Node Global)) (i : ℕ) (g : Vec Node Global) (lt : i < length groups) (at : g ≡ get_or groups i g) where
  pub groups-next : (w : ℕ) → AreGroups w (groups_held (drop i groups)) → AreOf w (map vertex_held g.items) × AreGroups (w + 1) (groups_held (drop (i + 1) groups))
  groups-next w of = subst (λ gs. AreGroups w (groups_held gs)) (drop-more groups i g lt at) of

  -- what is listed of all groups, where it is so of one list behind another
  module _ {X : Type 0} (listed : ℕ → List Vertex → List X) (two : (n : ℕ) (xs ys : List Vertex) (m : ℕ) → m ≡ n + length xs → listed n (xs ++ ys) ≡ listed n xs ++ listed m ys) where
    abbrev rest : List Vertex
    rest = laid (groups_held (drop (i + 1) groups))

    pub listed-next : (n m : ℕ) (old new target : List X) → m ≡ n + length g.items → new ≡ old ++ listed n (map vertex_held g.items) → old ++ listed n (laid (groups_held (drop i groups))) ≡ target → new ++ listed m rest ≡ target
    listed-next n m old new target count added before =
        let long = length-map g.items vertex_held in
        ap (λ l. l ++ listed m rest) added
        ∙ append_assoc old (listed n (map vertex_held g.items)) (listed m rest)
        ∙ ap (λ l. old ++ l) (sym (two n (map vertex_held g.items) rest m (omega (arith, count, long))))
        ∙ ap (λ gs. old ++ listed n (laid (groups_held gs))) (sym (drop-more groups i g lt at))
        ∙ before
