use Rattle.std.proofs.Common.{◌≡◌, ℕ, List, [], ◌++◌, map, sym, subst, ◌∙◌, ap}
use Rattle.type_diagrams.specs.declared.path.Path.{Path}
use Rattle.type_diagrams.specs.Paths.{paths_of, behind}
use Rattle.type_diagrams.specs.Tables.{tree_of, root_of, condition, condition_at}
use Rattle.type_diagrams.specs.Questions.{IsTreeOf, IsUnionOf}
use Rattle.type_diagrams.proofs.NodeTrees.{tree_of-ordered}
use Rattle.type_diagrams.proofs.PathSteps.{behind-none}
use Rattle.type_diagrams.proofs.Unions.{paths-IsUnionOf}
use Rattle.type_diagrams.proofs.diagrams.Diagrams.paths.Goals as goal

module _ (pos neg : List ℕ) (before last all : List Path) where
  from_start : pos ≡ [] → neg ≡ [] → before ≡ [] → last ≡ before ++ map (behind pos neg) all → last ≡ all
  from_start p n b e = e ∙ (λ i. b i ++ map (behind (p i) (n i)) all) ∙ behind-none all

pub returns-clause-ordered : goal.returns-clause-ordered
returns-clause-ordered c =
    let t = c.args.self.now in
    let root = root_of c.diagram.result c.args.kind in
    let number = c.diagram.ensures.over.roots c.args.kind in
    let tree = tree_of t.nodes root in
    let is : IsTreeOf (condition t c.args.a) c.args.kind tree = record {
      ordered = tree_of-ordered t.nodes c.diagram.ensures.nodes root number;
      same = λ v. ap (λ o. (condition_at t o).by_kind c.args.kind v) (sym c.diagram.ensures.value);
    } in (
      tree,
      is,
      from_start c.new-pos.result.items c.new-neg.result.items c.new-found.result.items c.find_paths.new.found.items (paths_of tree) c.new-pos.ensures.items c.new-neg.ensures.items c.new-found.ensures.items
          (c.in_ok-find_paths.ensures.found ∙ ap (λ n. c.new-found.result.items ++ map (behind c.new-pos.result.items c.new-neg.result.items) (paths_of (tree_of t.nodes n))) c.root-root.ensures),
    )

pub returns-clause-shapes : goal.returns-clause-shapes
returns-clause-shapes c =
    let found = returns-clause-ordered c in
    subst (IsUnionOf (condition c.args.self.now c.args.a) c.args.kind) (sym found.2) (paths-IsUnionOf (condition c.args.self.now c.args.a) c.args.kind found.0 found.1)
