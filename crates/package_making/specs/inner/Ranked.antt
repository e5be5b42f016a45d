-- Files with the places of their modules.
use Rattle.std.specs.Prelude.{ℕ, List, map}
use Rattle.bal_tree.specs.declared.package.SourceFile.{SourceFile}
use Rattle.package_making.specs.Making.{rank}
use Rattle.package_making.specs.declared.making.Placed.{Placed}

abbrev pub ranked : List ℕ → List (ℕ × SourceFile) → List Placed
ranked order files = map (λ f. record { rank = rank order f.0; file = f.1 }) files
