-- The paths of a question, kind by kind.
use Rattle.std.specs.Prelude.{◌≡◌, ◌++◌, List, map}
use Rattle.type_diagrams.specs.declared.kind.Kind.{Kind}
use Rattle.type_diagrams.specs.declared.path.Path.{Path}
use Rattle.type_diagrams.specs.Conditions.{Condition}
use Rattle.type_diagrams.specs.Questions.{HasPaths, IsUnionOf}
use Rattle.subtype_decider.specs.declared.way.Way.{Way}

abbrev pub way : Kind → Path → Way
way k p = record { kind = k; path = p }

-- the paths of the kind are added
pub record GainsWays (c : Condition) (k : Kind) (old new : List Way) : Type 0 where
  pub paths : List Path
  pub ordered : HasPaths c k paths
  pub shapes : IsUnionOf c k paths
  pub now : new ≡ old ++ map (way k) paths
