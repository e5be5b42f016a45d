-- Vertices by neighbours of one worker, one more after another, and those to which edges go.
use Rattle.std.proofs.Common.{◌≡◌, ◌∙◌, ◌<◌, ◌⊎◌, ◌+◌, ◌++◌, ◌==◌, ℕ, zero, suc, true, false, List, [], ◌∷◌, Vec, drop, map, get_or, length, set, refl, sym, subst, ap, inl, inr, arith}
use Rattle.std.specs.Prelude.{◌&&◌, if◌then◌else◌, nat_lt}
use Rattle.std.specs.Global.{Global}
use Rattle.std.proofs.lemmas.Bool.{and_parts, eqb-true, false_from_ne_true, false≢true, or_cases, or_left, or_right}
use Rattle.std.proofs.lemmas.List.{append-nil, append_assoc, get_or_default, map-append}
use Rattle.graphs.proofs.Rows.{drop-more}
use Rattle.worker_ranks.specs.declared.nodes.Edges.{Edges}
use Rattle.worker_ranks.specs.declared.nodes.Edges.TheVariants.{Close, Every}
use Rattle.worker_ranks.specs.declared.nodes.Node.{Node}
use Rattle.worker_ranks.specs.inner.SideBySide.{AreRuns, IsGrown, IsRun, begins_with, may_lead}
use Rattle.worker_ranks.specs.inner.Turned.{AreOf, groups_held, laid, may_need}
use Rattle.worker_ranks.specs.inner.Vertices.{Vertex, is_edge_by, needs_other, passing, vertex_held}
use Rattle.worker_ranks.proofs.InTurn.{may-so}

-- ---- one more

of-more : (w : ℕ) (bs : List Vertex) (v : Vertex) → AreOf w bs → v.worker ≡ w → AreOf w (bs ++ v ∷ [])
of-more w [] v of same = (same, tt)
of-more w (b ∷ bs) v (first, rest) same = (first, of-more w bs v rest same)

run-more : (bs : List Vertex) (v : Vertex) → begins_with v.worker bs ≡ true → IsRun bs → IsRun (bs ++ v ∷ [])
run-more [] v is of = absurd (false≢true is)
run-more (b ∷ bs) v is (first, rest) = (first, of-more b.worker bs v rest (sym (eqb-true b.worker v.worker is)))

pub grown-new : (olds : List (Vec Node Global)) (one : Vec Node Global) (v : Vertex) → map vertex_held one.items ≡ v ∷ [] → IsGrown (groups_held olds) (groups_held (olds ++ one ∷ [])) v
grown-new [] one v is runs = ((subst IsRun (sym is) (refl, tt), tt), append-nil (map vertex_held one.items) ∙ is)
grown-new (g ∷ olds) one v is (first, rest) =
    let more = grown-new olds one v is rest in
    ((first, more.0), ap (λ l. map vertex_held g.items ++ l) more.1 ∙ sym (append_assoc (map vertex_held g.items) (laid (groups_held olds)) (v ∷ [])))

module _ (v : Vertex) (old new : Vec Node Global) (added : map vertex_held new.items ≡ map vertex_held old.items ++ v ∷ []) (is : begins_with v.worker (map vertex_held old.items) ≡ true) where
  same-run : (g : Vec Node Global) → old ≡ g → IsRun (map vertex_held g.items) → IsRun (map vertex_held new.items)
  same-run g same of = subst IsRun (sym added) (run-more (map vertex_held old.items) v is (subst (λ h. IsRun (map vertex_held h.items)) (sym same) of))

  pub grown-last : (olds : List (Vec Node Global)) (i : ℕ) → i + 1 ≡ length olds → old ≡ get_or olds i old → IsGrown (groups_held olds) (groups_held (set olds i new)) v
  grown-last [] i long at runs = absurd (omega (arith, long))
  grown-last (g ∷ []) zero long at (first, rest) = (
    (same-run g at first, tt),
    append-nil (map vertex_held new.items) ∙ added ∙ ap (λ h. map vertex_held h.items ++ v ∷ []) at ∙ ap (λ l. l ++ v ∷ []) (sym (append-nil (map vertex_held g.items))),
  )
  grown-last (g ∷ h ∷ olds) zero long at runs = absurd (omega (arith, long))
  grown-last (g ∷ olds) (suc i) long at (first, rest) =
      let more = grown-last olds i (omega (arith, long)) at rest in
      ((first, more.0), ap (λ l. map vertex_held g.items ++ l) more.1 ∙ sym (append_assoc (map vertex_held g.items) (laid (groups_held olds)) (v ∷ [])))

-- what stands at a place is one thing
pub one-there : (groups : List (Vec Node Global)) (i : ℕ) (g h : Vec Node Global) → i < length groups → g ≡ get_or groups i g → h ≡ get_or groups i h → g ≡ h
one-there groups i g h lt first second = first ∙ get_or_default groups i g h lt ∙ sym second

-- one more of those that a loop goes through
module _ (nodes : List Node) (i : ℕ) (x : Node) (lt : i < length nodes) (at : x ≡ get_or nodes i x) where
  abbrev AreSoFar : List (List Vertex) → ℕ → Type 0
  AreSoFar groups n = AreRuns groups × (laid groups ++ map vertex_held (drop n nodes) ≡ map vertex_held nodes)

  pub runs-next : (olds news : List (List Vertex)) → IsGrown olds news (vertex_held x) → AreSoFar olds i → AreSoFar news (i + 1)
  runs-next olds news grown (runs, before) =
      let more = grown runs in (
        more.0,
        ap (λ l. l ++ map vertex_held (drop (i + 1) nodes)) more.1
            ∙ append_assoc (laid olds) (vertex_held x ∷ []) (map vertex_held (drop (i + 1) nodes))
            ∙ ap (λ xs. laid olds ++ map vertex_held xs) (sym (drop-more nodes i x lt at))
            ∙ before,
      )

-- ---- a run and its first one

pub run-of : (g : List Node) (b : Node) → 0 < length g → b ≡ get_or g 0 b → IsRun (map vertex_held g) → AreOf b.worker (map vertex_held g)
run-of [] b lt at is = absurd (omega (arith, lt))
run-of (x ∷ g) b lt at is = subst (λ n. AreOf n.worker (map vertex_held (x ∷ g))) (sym at) is

pub begins-there : (g : List Node) (b : Node) (w : ℕ) → 0 < length g → b ≡ get_or g 0 b → (b.worker == w) ≡ begins_with w (map vertex_held g)
begins-there [] b w lt at = absurd (omega (arith, lt))
begins-there (x ∷ g) b w lt at = ap (λ n. n.worker == w) at

pub none-there : (g : List Node) → length g ≡ 0 → map vertex_held g ≡ []
none-there [] none = refl
none-there (x ∷ g) none = absurd (omega (arith, none))

-- ---- those to which no edge goes

lead-so : (edges : Edges) (a b : Vertex) → is_edge_by edges a b ≡ true → may_lead a b.worker ≡ true
lead-so Every a b is = by (or_cases _ _ is)
  where
    by : (((a.worker == b.worker) && nat_lt b.number a.number) ≡ true) ⊎ (needs_other a.kind a b ≡ true) → may_lead a b.worker ≡ true
    by (inl behind) = or_left (a.worker == b.worker) (may_need a.kind b.worker) (and_parts (a.worker == b.worker) (nat_lt b.number a.number) behind).0
    by (inr needs) = or_right (a.worker == b.worker) (may_need a.kind b.worker) (may-so a.kind a b needs)
lead-so Close a b is = by (or_cases _ _ is)
  where
    by : (((a.worker == b.worker) && (b.number + 1 == a.number)) ≡ true) ⊎ (needs_other a.kind a b ≡ true) → may_lead a b.worker ≡ true
    by (inl behind) = or_left (a.worker == b.worker) (may_need a.kind b.worker) (and_parts (a.worker == b.worker) (b.number + 1 == a.number) behind).0
    by (inr needs) = or_right (a.worker == b.worker) (may_need a.kind b.worker) (may-so a.kind a b needs)

pub none-followed : (edges : Edges) (a : Vertex) (w n : ℕ) (bs : List Vertex) → may_lead a w ≡ false → AreOf w bs → passing (is_edge_by edges a) n bs ≡ []
none-followed edges a w n [] off of = refl
none-followed edges a w n (b ∷ bs) off (same, rest) = (λ i. (if not-this i then n ∷ [] else []) ++ none-followed edges a w (n + 1) bs off rest i)
  where
    not-this : is_edge_by edges a b ≡ false
    not-this = false_from_ne_true (is_edge_by edges a b) (λ is. false≢true (sym off ∙ ap (may_lead a) (sym same) ∙ lead-so edges a b is))

-- ---- a run more

module _ (groups : List (Vec Node Global)) (i : ℕ) (g : Vec Node Global) (lt : i < length groups) (at : g ≡ get_or groups i g) where
  pub next-run : AreRuns (groups_held (drop i groups)) → IsRun (map vertex_held g.items) × AreRuns (groups_held (drop (i + 1) groups))
  next-run are = subst (λ gs. AreRuns (groups_held gs)) (drop-more groups i g lt at) are

-- the rows of these, whatever number the first has
abbrev pub rows_of : (Vertex → List ℕ) → ℕ → List Vertex → List (List ℕ)
rows_of row n xs = map row xs

pub rows-of-two : (row : Vertex → List ℕ) (n : ℕ) (xs ys : List Vertex) (m : ℕ) → m ≡ n + length xs → rows_of row n (xs ++ ys) ≡ rows_of row n xs ++ rows_of row m ys
rows-of-two row n xs ys m e = map-append row xs ys
