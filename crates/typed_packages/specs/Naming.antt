-- Names of a package that lead to its definitions: the number of a variable is its place among the variables in the order of the text.
use Rattle.std.specs.Prelude.{All, Bool, List, Some, [], map, slice_get, ℕ, ◌++◌, ◌∷◌, ◌≡◌}
use Rattle.bal_base.specs.declared.text.Name.{Name}
use Rattle.bal_tree.specs.declared.def.Def.TheVariants as def
use Rattle.bal_tree.specs.declared.def.Def.{Def}
use Rattle.bal_tree.specs.declared.def.FunctionDef.{FunctionDef}
use Rattle.bal_tree.specs.declared.def.VariableDef.{VariableDef}
use Rattle.bal_tree.specs.declared.package.Package.{Package}
use Rattle.checks.specs.Checks.{Gives}
use Rattle.descriptors.specs.Naming.{entry_in}
use Rattle.descriptors.specs.Steps.{AreNames}
use Rattle.descriptors.specs.declared.names.Entry.{Entry}
use Rattle.descriptors.specs.declared.names.Meaning.TheVariants as meaning
use Rattle.descriptors.specs.declared.names.Names.{Names}
use Rattle.descriptors.specs.declared.names.Signature.{Signature}
use Rattle.name_resolution.specs.Definitions.{Placed as Definition, definitions_of}
use Rattle.package_checks.specs.Checked.{checked_package}
use Rattle.tree_promises.specs.Placed.{Placed, placed_units}
use Rattle.tree_promises.specs.WellTyped.{AreNumbered}
use Rattle.type_model.specs.Calls.{Asked}
use Rattle.type_model.specs.Defined.{IsEnv}
use Rattle.type_model.specs.declared.answers.TypeLimit.{TypeLimit}
use Rattle.type_model.specs.declared.atoms.AtomDef.{AtomDef}
use Rattle.type_model.specs.declared.basic.Ty.{Ty}
use Rattle.typed_needs.specs.Placing.{AreRestLists}
use Rattle.typed_packages.specs.Packages.{HasTypes, PackageActs}
use Rattle.typed_tree.specs.Units.{units_of}
use Rattle.typed_tree.specs.declared.package.TypedPackage.{TypedPackage}

-- ---- variables and functions in the order of the text, each with the number of its module

abbrev pub variable_of : ℕ → Def → List (ℕ × VariableDef)
variable_of m (def.«Type» d) = []
variable_of m (def.Const d) = []
variable_of m (def.Variable d) = (m, d) ∷ []
variable_of m (def.Function d) = []

abbrev pub function_of : ℕ → Def → List (ℕ × FunctionDef)
function_of m (def.«Type» d) = []
function_of m (def.Const d) = []
function_of m (def.Variable d) = []
function_of m (def.Function d) = (m, d) ∷ []

abbrev pub variables_among : List Definition → List (ℕ × VariableDef)
variables_among [] = []
variables_among (x ∷ xs) = variable_of x.«module» x.def ++ variables_among xs

abbrev pub functions_among : List Definition → List (ℕ × FunctionDef)
functions_among [] = []
functions_among (x ∷ xs) = function_of x.«module» x.def ++ functions_among xs

-- ---- what names stand for

-- A variable that a name stands for is the one of its number, and a function is one of the package.
pub record NamesLead (names : Names) (p : Package) : Type 0 where
  pub variables : (m : ℕ) (name : Name) (e : Entry) (number : ℕ) (final : Bool) (t : Ty) → entry_in names name m ≡ Some e → e.meaning ≡ meaning.Variable number final t
      → (x : ℕ × VariableDef) × (slice_get (variables_among (definitions_of p)) number ≡ Some x) × (entry_in names x.1.name.name x.0 ≡ Some e)
  pub functions : (m : ℕ) (name : Name) (e : Entry) (f : Signature) → entry_in names name m ≡ Some e → e.meaning ≡ meaning.Function f
      → (k : ℕ) × (x : ℕ × FunctionDef) × (slice_get (functions_among (definitions_of p)) k ≡ Some x) × (entry_in names x.1.name.name x.0 ≡ Some e)

-- what takes the rest of the arguments of a function is of its lists
abbrev pub RestsAreLists : List AtomDef → Names → Type 0
RestsAreLists env names = (m : ℕ) (name : Name) (e : Entry) (f : Signature) → entry_in names name m ≡ Some e → e.meaning ≡ meaning.Function f → AreRestLists env f.rest f.lists

-- ---- packages

-- each unit is placed, and there is a way through its body by the types of operands
pub record AreAllTyped (env : List AtomDef) (t : TypedPackage) : Type 0 where
  pub covered : map (λ (u : Placed). u.tree) (placed_units t) ≡ units_of t
  pub units : All (HasTypes env t) (placed_units t)

-- Of a package that is checked, whose names lead to its definitions and whose units are numbered without gaps.
abbrev pub NamedUnitsAreTyped : (List AtomDef → Asked → TypeLimit → Type 0) → Type 0
NamedUnitsAreTyped passes =
    (names : Names) (p : Package) (old : List AtomDef) (t : TypedPackage) (new : List AtomDef) → IsEnv old → AreNames old names
    → checked_package passes names p old (Gives t) new → NamesLead names p → RestsAreLists new names → AreNumbered new t → PackageActs p → AreAllTyped new t
