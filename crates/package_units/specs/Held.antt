-- A unit, as references to its parts of the tree.
use Rattle.typed_tree.specs.Units.{UnitTree}
use Rattle.lower_stmt.specs.Bodies.{body_of}
use Rattle.package_units.specs.declared.held.HeldUnit.{HeldUnit}

abbrev pub tree_of : HeldUnit → UnitTree
tree_of u = record { unit = u.unit.now; body = body_of u.body }
