-- The ways through a decision to true.
use Rattle.std.specs.Prelude.{ℕ, List, [], ◌∷◌, ◌++◌, map, ◌&&◌, not, Bool, All}
use Rattle.std.specs.List.{list_all}
use Rattle.bal_base.specs.declared.shape.Shape.{Shape}
use Rattle.type_model.specs.declared.atoms.AtomDef.{AtomDef}
use Rattle.type_diagrams.specs.declared.kind.Kind.{Kind}
use Rattle.type_diagrams.specs.declared.path.Path.{Path}
use Rattle.type_diagrams.specs.Kinds.{IsOfKind, HoldsOf}
use Rattle.type_diagrams.specs.Trees.{Tree, No, Yes, By}

abbrev pub with_pos : ℕ → Path → Path
with_pos l p = record { pos = l ∷ p.pos; neg = p.neg }

abbrev pub with_neg : ℕ → Path → Path
with_neg l p = record { pos = p.pos; neg = l ∷ p.neg }

-- a path behind literals on the way to it
abbrev pub behind : List ℕ → List ℕ → Path → Path
behind pos neg p = record { pos = pos ++ p.pos; neg = neg ++ p.neg }

-- the paths of a decision, those on which its first literal holds before the others
abbrev pub paths_of : Tree → List Path
paths_of No = []
paths_of Yes = record { pos = []; neg = [] } ∷ []
paths_of (By l s t) = map (with_pos l) (paths_of s) ++ map (with_neg l) (paths_of t)

-- whether an assignment goes along the path
abbrev pub is_along : (ℕ → Bool) → Path → Bool
is_along v p = list_all v p.pos && list_all (λ l. not (v l)) p.neg

-- a shape of the path: it is of the kind, each literal in `pos` holds of it and none in `neg`
pub record IsOnPath (env : List AtomDef) (k : Kind) (p : Path) (x : Shape) : Type 0 where
  pub kind : IsOfKind k x
  pub holding : All (HoldsOf env x) p.pos
  pub failing : All (λ l. ¬ HoldsOf env x l) p.neg
