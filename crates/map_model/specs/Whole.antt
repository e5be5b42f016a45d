-- The maps of a code, where they are those of its package: at each place the types of the operands, and in workers how many messages
-- were sent and received so far. No message stands where ways part, so what was sent before a place is what stands before it.
use Rattle.std.specs.Prelude.{◌≡◌, ℕ, List, [], ◌∷◌, Option, Some, None, length}
use Rattle.std.specs.List.{AllZip, flat_map}
use Rattle.type_model.specs.SameType.{IsSameType}
use Rattle.typed_tree.specs.declared.package.TypedPackage.{TypedPackage}
use Rattle.typed_tree.specs.Units.{UnitBody, OfFunction, OfWorker, OfAnonymous, OfInitialiser}
use Rattle.op_model.specs.Levels.{numbers_from}
use Rattle.stack_code.specs.declared.code.Code.{Code}
use Rattle.stack_code.specs.declared.code.StackMap.{StackMap}
use Rattle.stack_code.specs.Commands.{Command, Do, GoTo, GoToIfNot, OpenTrap, CloseTrap}
use Rattle.stack_code.specs.Flow.{no_messages, tally_behind}
use Rattle.stack_code.specs.Places.{Tally, tally_of}
use Rattle.lower_model.specs.Making.{unit_made, unmade}
use Rattle.tree_promises.specs.Placed.{Placed, placed_at, surroundings}
use Rattle.tree_promises.specs.Types.{Stack}
use Rattle.map_model.specs.Maps.{unit_maps}
use Rattle.map_model.specs.Points.{PlainTypes}

-- ---- numbers of messages, in a function of so many workers

abbrev pub tally_after : ℕ → Command → Option Tally → Option Tally
tally_after workers (Do op) tally = tally_behind workers op tally
tally_after workers (GoTo l) tally = tally
tally_after workers (GoToIfNot l) tally = tally
tally_after workers (OpenTrap l) tally = tally
tally_after workers CloseTrap tally = tally

-- at each of these commands, from these on
abbrev pub tallies : ℕ → Option Tally → List Command → List (Option Tally)
tallies workers tally [] = []
tallies workers tally (c ∷ cs) = tally ∷ tallies workers (tally_after workers c tally) cs

-- a named worker begins with numbers, and the default worker has them when the named ones are started
abbrev pub begins_with : ℕ → UnitBody → Option Tally
begins_with workers (OfFunction body) = None
begins_with workers (OfWorker stmts ends) = Some (no_messages workers)
begins_with workers (OfAnonymous value) = None
begins_with workers (OfInitialiser values) = None

-- ---- maps

-- what is known at a place
pub record Point : Type 0 where
  pub stack : Stack
  pub tally : Option Tally

abbrev pub points : List Stack → List (Option Tally) → List Point
points [] ts = []
points (s ∷ ss) [] = []
points (s ∷ ss) (t ∷ ts) = record { stack = s; tally = t } ∷ points ss ts

abbrev pub unit_points : PlainTypes → TypedPackage → Placed → List Point
unit_points plain p u =
    let workers = length u.crew in
    points (unit_maps plain (surroundings p u) u.tree.body []) (tallies workers (begins_with workers u.tree.body) (unit_made u.tree.body unmade).steps)

abbrev pub points_at : PlainTypes → TypedPackage → Option Placed → List Point
points_at plain p (Some u) = unit_points plain p u
points_at plain p None = []

-- those of all units, in the order of their numbers
abbrev pub package_points : PlainTypes → TypedPackage → List Point
package_points plain p = flat_map (λ n. points_at plain p (placed_at p n)) (numbers_from 0 p.units)

-- types as they are written
abbrev pub IsMapOf : StackMap → Point → Type 0
IsMapOf m x = AllZip IsSameType x.stack m.stack × (tally_of m ≡ x.tally)

abbrev pub MapsAre : PlainTypes → TypedPackage → Code → Type 0
MapsAre plain p code = AllZip IsMapOf code.maps (package_points plain p)
