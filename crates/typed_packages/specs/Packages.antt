-- Checked packages: all their units are typed, where numbers lead to what they stand for.
use Rattle.std.specs.Prelude.{All, List, None, [], map, ⊤}
use Rattle.bal_tree.specs.declared.def.Def.TheVariants as def
use Rattle.bal_tree.specs.declared.def.Def.{Def}
use Rattle.bal_tree.specs.declared.package.Module.{Module}
use Rattle.bal_tree.specs.declared.package.Package.{Package}
use Rattle.bal_tree.specs.declared.package.SourceFile.{SourceFile}
use Rattle.checks.specs.Checks.{Gives}
use Rattle.descriptors.specs.Steps.{AreNames}
use Rattle.descriptors.specs.declared.names.Names.{Names}
use Rattle.eval_model.specs.TaskWalk.{TasksOver}
use Rattle.eval_model.specs.Trees.{body_tasks}
use Rattle.op_model.specs.Levels.{numbers_from}
use Rattle.operations.specs.Rows.{Surroundings}
use Rattle.package_checks.specs.Checked.{checked_package}
use Rattle.tree_promises.specs.Placed.{Placed, placed_at, placed_units, signature_of, surroundings}
use Rattle.tree_promises.specs.Types.{type_ways}
use Rattle.type_model.specs.Calls.{Asked}
use Rattle.type_model.specs.Defined.{IsEnv}
use Rattle.type_model.specs.declared.answers.TypeLimit.{TypeLimit}
use Rattle.type_model.specs.declared.atoms.AtomDef.{AtomDef}
use Rattle.type_model.specs.declared.basic.BasicSet.TheVariants.{Never}
use Rattle.type_model.specs.declared.basic.SemType.{Basic}
use Rattle.typed_definitions.specs.Acting.{ActsOnItsOwn}
use Rattle.typed_needs.specs.Between.{IsUnitAt}
use Rattle.typed_needs.specs.Placing.{AreNamed}
use Rattle.typed_stmts.specs.Assigned.{TakeValues}
use Rattle.typed_tree.specs.SharedTypes.{sem_of}
use Rattle.typed_tree.specs.declared.package.TypedPackage.{TypedPackage}

-- ---- actions

-- each action of a function is of another worker of the function
abbrev pub DefActs : Def → Type 0
DefActs (def.«Type» d) = ⊤
DefActs (def.Const d) = ⊤
DefActs (def.Variable d) = ⊤
DefActs (def.Function d) = ActsOnItsOwn d

abbrev pub FileActs : SourceFile → Type 0
FileActs f = All DefActs f.tree.defs.items

abbrev pub ModuleActs : Module → Type 0
ModuleActs m = All FileActs m.files

abbrev pub PackageActs : Package → Type 0
PackageActs p = All ModuleActs p.modules

-- ---- numbers

-- what is the same of all places in the package: its units and its variables
abbrev pub place_in : TypedPackage → Surroundings
place_in t =
    record {
      units = map (λ n. signature_of (placed_at t n)) (numbers_from 0 t.units);
      variables = map (λ v. sem_of v.ty) t.variables.items;
      slots = [];
      result = Basic Never;
      workers = [];
    }

-- Each unit is the one by its number, and the functions and variables that names stand for are those by their numbers: a variable is of its type, and takes all that is.
pub record LeadsThere (env : List AtomDef) (names : Names) (t : TypedPackage) : Type 0 where
  pub units : All (IsUnitAt (place_in t)) (placed_units t)
  pub named : AreNamed env names (place_in t)
  pub takes : TakeValues env names (place_in t)

-- ---- packages

-- there is a way through the body of the unit by the types of operands, from none on
abbrev pub HasTypes : List AtomDef → TypedPackage → Placed → Type 0
HasTypes env t u = TasksOver (type_ways env (surroundings t u)) (body_tasks u.tree.body) [] None

-- of a package that is checked
abbrev pub CheckedUnitsAreTyped : (List AtomDef → Asked → TypeLimit → Type 0) → Type 0
CheckedUnitsAreTyped passes =
    (names : Names) (p : Package) (old : List AtomDef) (t : TypedPackage) (new : List AtomDef) → IsEnv old → AreNames old names
    → checked_package passes names p old (Gives t) new → LeadsThere new names t → PackageActs p → All (HasTypes new t) (placed_units t)
