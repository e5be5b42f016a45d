-- Functions of a path that have one more pair: each pair that all wanted arrows allow is in one of them.
use Rattle.std.proofs.Common.{◌≡◌, ◌⊎◌, ⊎_elim, inl, inr, ℕ, ◌+◌, ◌<◌, ◌≤◌, ◌==◌, ◌^◌, not, List, [], ◌∷◌, length, Bool, true, false, All, Contains, refl, sym, ap, subst, ◌∙◌, arith}
use Rattle.std.proofs.lemmas.Bool.{false≢true}
use Rattle.std.proofs.lemmas.List.Elements.{All-nil, All-cons, All-head, All-tail, All-weaker, All-contains_itself}
use Rattle.bal_base.specs.declared.shape.Shape.{Shape, Nil, Bool as BoolShape, Int, Str, List', Mapping', Error', Function, Future'}
use Rattle.bal_base.specs.declared.shape.Case.{Case}
use Rattle.bal_base.specs.declared.shape.Graph.{Graph, out-Graph, roll-Graph, out-roll-Graph}
use Rattle.bal_base.specs.Shapes.{graph_list}
use Rattle.bal_base.specs.Valid.{CaseIsValid}
use Rattle.type_model.specs.declared.atoms.AtomDef.{AtomDef}
use Rattle.type_model.specs.Application.{Answers, arguments_of as list_of}
use Rattle.type_diagrams.specs.declared.kind.Kind.TheVariants.{Function as Functions}
use Rattle.type_diagrams.specs.declared.path.Path.{Path}
use Rattle.type_diagrams.specs.Kinds.{IsOfKind, the_mark}
use Rattle.type_diagrams.specs.Members.{atoms_in}
use Rattle.type_diagrams.specs.Turns.{IsShapeOn}
use Rattle.type_diagrams.proofs.PathShapes.{has_mark}
use Rattle.empty_arrow.specs.Arrows.{IsArrow, is_isolated}
use Rattle.empty_arrow.specs.Graphs.{AreCases, IsFree, is_alone_in}
use Rattle.empty_arrow.specs.Pairs.{FitsArrow}
use Rattle.empty_arrow.proofs.GraphLaws.{no_marked_function, sought-fails, path-pair, function-on_path}
use Rattle.empty_arrow.proofs.PathLengths.{length-filter-le}

-- a graph with these pairs
graph_of : Graph → (cases : List Case) → length cases < 2 ^ 63 → Graph
graph_of g cases few =
    let v = (out-Graph g).items in
    roll-Graph (record { items = record { ptr = v.ptr; len = length cases; cap = length cases; alloc = v.alloc; items = cases; ok = (refl, omega arith); small = few } })

graph_of-list : (g : Graph) (cases : List Case) (few : length cases < 2 ^ 63) → graph_list (graph_of g cases few) ≡ cases
unfolding graph_of
graph_of-list g cases few = ap (λ l. l.items.items) (out-roll-Graph _)

a_graph : (x : Shape) → IsOfKind Functions x → Graph
a_graph (Function isolated graph) kind = graph
a_graph Nil kind = cc
a_graph (BoolShape b) kind = cc
a_graph (Int i) kind = cc
a_graph (Str t) kind = cc
a_graph (List' mark _ items) kind = cc
a_graph (Mapping' mark _ fields) kind = cc
a_graph (Error' _ detail) kind = cc
a_graph (Future' _ results) kind = cc

module _ (env : List AtomDef) (small : length env ≤ the_mark) (p : Path) (pos : All (IsArrow env) (atoms_in p.pos)) (neg : All (IsArrow env) (atoms_in p.neg)) where
  abbrev wanted : List ℕ
  wanted = atoms_in p.pos

  abbrev IsFitting : Case → Type 0
  IsFitting c = CaseIsValid c × All (FitsArrow env c) wanted

  abbrev IsAvoided : List Case → ℕ → Type 0
  IsAvoided cases a = IsFree env wanted a ⊎ (¬ All (λ c. FitsArrow env c a) cases)

  more-avoided : (c : Case) (cases : List Case) (a : ℕ) → IsAvoided cases a → IsAvoided (c ∷ cases) a
  more-avoided c cases a =
      ⊎_elim (λ (free : IsFree env wanted a). inl free) (λ (n : ¬ All (λ k. FitsArrow env k a) cases). inr (λ all. n (All-tail (λ k. FitsArrow env k a) c cases all)))

  one-more : (c : Case) (cases : List Case) (unwanted : List ℕ) → IsFitting c → AreCases env wanted unwanted cases → AreCases env wanted unwanted (c ∷ cases)
  one-more c cases unwanted fits are = record {
    fitting = All-cons IsFitting c cases fits are.fitting;
    avoiding = All-weaker (IsAvoided cases) (IsAvoided (c ∷ cases)) (more-avoided c cases) unwanted are.avoiding;
  }

  -- pairs that avoid unwanted arrows, one at most for each
  abbrev HasFew : List ℕ → Type 0
  HasFew unwanted = (cases : List Case) × AreCases env wanted unwanted cases × (length cases ≤ length unwanted)

  module _ (x : Shape) (on : IsShapeOn env Functions p x) where
    avoiding : (unwanted : List ℕ) → All (Contains (atoms_in p.neg)) unwanted → HasFew unwanted
    avoiding [] among = ([], record { fitting = All-nil IsFitting; avoiding = All-nil (IsAvoided []) }, omega arith)
    avoiding (a ∷ unwanted) among = by (is_isolated env a) (is_alone_in env wanted) refl refl (avoiding unwanted (All-tail (Contains (atoms_in p.neg)) a unwanted among))
      where
        free : IsFree env wanted a → HasFew unwanted → HasFew (a ∷ unwanted)
        free is (cases, are, few) =
            (cases, record { fitting = are.fitting; avoiding = All-cons (IsAvoided cases) a unwanted (inl is) are.avoiding }, omega (arith, few))

        bound : ¬ IsFree env wanted a → HasFew unwanted → HasFew (a ∷ unwanted)
        bound not (cases, are, few) =
            let f = path-pair env small p pos neg x on.0 on.1 a (All-head (Contains (atoms_in p.neg)) a unwanted among) not in
            let c = f.0 in
            let more = one-more c cases unwanted (f.2.valid, f.2.fits) are in
            let avoids : ¬ All (λ k. FitsArrow env k a) (c ∷ cases) = λ all. sought-fails env c a wanted f.2 (All-head (λ k. FitsArrow env k a) c cases all) in
            (c ∷ cases, record { fitting = more.fitting; avoiding = All-cons (IsAvoided (c ∷ cases)) a unwanted (inr avoids) more.avoiding }, omega (arith, few))

        by : (i w : Bool) → is_isolated env a ≡ i → is_alone_in env wanted ≡ w → HasFew unwanted → HasFew (a ∷ unwanted)
        by true false e f rest = free (e, f) rest
        by true true e f rest = bound (λ is. false≢true (sym is.1 ∙ f)) rest
        by false w e f rest = bound (λ is. false≢true (sym e ∙ is.0)) rest

    -- such a pair is in a function of the path
    pub function-with : length p.pos + length p.neg ≤ the_mark + 2 → (c : Case) → CaseIsValid c → All (FitsArrow env c) wanted → (f : Shape) × IsShapeOn env Functions p f × Answers f (list_of c) c.result
    function-with short c valid fits = by (has_mark p) refl
      where
        found : HasFew (atoms_in p.neg)
        found = avoiding (atoms_in p.neg) (All-contains_itself (atoms_in p.neg))

        cases : List Case
        cases = c ∷ found.0

        few : length (c ∷ found.0) < 2 ^ 63
        few = let fewer = length-filter-le (λ l. not (l == the_mark)) p.neg in let each : length found.0 ≤ length (atoms_in p.neg) = found.2 in omega (arith, each, fewer, short)

        graph : Graph
        graph = graph_of (a_graph x on.1.kind) (c ∷ found.0) few

        list : graph_list graph ≡ c ∷ found.0
        list = graph_of-list (a_graph x on.1.kind) (c ∷ found.0) few

        by : (b : Bool) → has_mark p ≡ b → (f : Shape) × IsShapeOn env Functions p f × Answers f (list_of c) c.result
        by true e = absurd (no_marked_function env p e x on.1)
        by false e =
            let are = one-more c found.0 (atoms_in p.neg) (valid, fits) found.1 in (
              Function (is_alone_in env wanted) graph,
              function-on_path env small p pos neg graph e (subst (AreCases env wanted (atoms_in p.neg)) (sym list) are),
              (c, subst (λ l. Contains l c) (sym list) (0, omega arith, refl), refl, refl),
            )
