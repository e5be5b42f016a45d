-- Which maps are given.
use Rattle.std.specs.Prelude.{◌≡◌, ◌++◌, ℕ, true, false, negsuc, pos, List, Option, Some, None, slice_get}
use Rattle.std.specs.List.{AllZip}
use Rattle.bal_base.specs.Limits.{greatest_int}
use Rattle.type_model.specs.declared.basic.BasicSet.TheVariants as set
use Rattle.type_model.specs.declared.basic.SemType.{SemType, Basic, Or', And', Not', Atom}
use Rattle.typed_tree.specs.declared.package.TypedPackage.{TypedPackage}
use Rattle.typed_tree.specs.Units.{UnitBody, UnitTree, OfAnonymous, OfFunction, OfInitialiser, OfWorker}
use Rattle.stack_code.specs.declared.code.StackMap.{StackMap}
use Rattle.lower_model.specs.Making.{unit_made, unmade}
use Rattle.tree_promises.specs.Placed.{slot_types}
use Rattle.unit_crews.specs.Crews.{crew_count}
use Rattle.unit_crews.specs.Noted.{Counts}
use Rattle.map_model.specs.Points.{PlainTypes}
use Rattle.map_model.specs.Whole.{IsMapOf, Point, begins_with, package_points, points, tallies}
use Rattle.map_traces.specs.Constructs.{Known}
use Rattle.map_traces.specs.Events.{variable_types}
use Rattle.map_traces.specs.Tracing.{untraced}
use Rattle.map_traces.specs.Trees.{unit_traced}
use Rattle.code_maps.specs.declared.plain.Plain.{Plain}
use Rattle.code_maps.specs.declared.player.Player.{Player}

-- ---- the types that no tree names

abbrev pub plain_of : Plain → PlainTypes
plain_of p = record { boolean = p.boolean; int = p.int; string = p.string }

-- true or false, as it is written
abbrev pub IsBooleans : SemType → Type 0
IsBooleans (Or' _ s _ t) = (s ≡ Basic (set.Bool true)) × (t ≡ Basic (set.Bool false))
IsBooleans (Basic b) = ⊥
IsBooleans (Atom n) = ⊥
IsBooleans (And' _ s _ t) = ⊥
IsBooleans (Not' _ t) = ⊥

-- all booleans, all ints of 64 bits, and all strings
abbrev pub ArePlain : PlainTypes → Type 0
ArePlain p = IsBooleans p.boolean × (p.int ≡ Basic (set.IntRange (negsuc greatest_int) (pos greatest_int))) × (p.string ≡ Basic set.StringAll)

-- ---- maps of a package

-- over the types of all booleans, all ints and all strings
abbrev pub AreMapsOf : TypedPackage → List StackMap → Type 0
AreMapsOf p ms = (plain : PlainTypes) × ArePlain plain × AllZip IsMapOf ms (package_points plain p)

-- ---- maps of a unit

-- what its tree tells, with the numbers of messages at its commands
abbrev pub known_points : Known → ℕ → UnitBody → List Point
known_points known workers body = points (unit_traced known body untraced).places (tallies workers (begins_with workers body) (unit_made body unmade).steps)

abbrev pub noted_count : Option (Option ℕ) → ℕ
noted_count (Some (Some n)) = n
noted_count (Some None) = 0
noted_count None = 0

-- how many workers its function has, with what was noted of named workers
abbrev pub crew_of : Counts → ℕ → UnitBody → ℕ
crew_of counts number (OfFunction body) = crew_count body
crew_of counts number (OfWorker stmts ends) = noted_count (slice_get counts number)
crew_of counts number (OfAnonymous value) = 0
crew_of counts number (OfInitialiser values) = 0

abbrev pub crew_in : Counts → UnitTree → ℕ
crew_in counts t = crew_of counts t.unit.number t.body

-- the types that are known where it stands
abbrev pub known_by : PlainTypes → TypedPackage → UnitTree → Known
known_by plain p t = record { plain = plain; slots = slot_types t.unit; variables = variable_types p.variables.items }

abbrev pub tree_points : PlainTypes → TypedPackage → Counts → UnitTree → List Point
tree_points plain p counts t = known_points (known_by plain p t) (crew_in counts t) t.body

-- maps for these points come behind those that were there
abbrev pub Adds : List Point → Player → Player → Type 0
Adds points old new = (before : List Point) → AllZip IsMapOf old.maps.items before → AllZip IsMapOf new.maps.items (before ++ points)
