-- Parts of the needs of variables of modules, which functions of their own meet.
use Rattle.std.specs.Prelude.{◌≡◌, ◌++◌, ℕ, Bool, true, false, [], ◌∷◌, Option, Some}
use Rattle.bal_tree.specs.declared.def.VariableDef.{VariableDef}
use Rattle.checks.specs.Checks.{◌▷◌}
use Rattle.descriptors.specs.declared.names.Names.{Names}
use Rattle.descriptors.specs.Described.{IsCopy}
use Rattle.descriptors.specs.Naming.{entry_in}
use Rattle.type_model.specs.declared.basic.Ty.{Ty}
use Rattle.typed_tree.specs.declared.package.ModuleVariable.{ModuleVariable}
use Rattle.typed_tree.specs.SharedTypes.{Shared}
use Rattle.check_words.specs.Calls.{opens_unit}
use Rattle.check_words.specs.Sharing.{SameUnit}
use Rattle.check_words.specs.State.{InitialiserAtWork, State, UnitAtWork}
use Rattle.check_words.specs.Units.{IsModuleVariable, initialiser_now, keeps_at_work, variable_type}
use Rattle.check_words.specs.Words.{Step, some_over, wants}
use Rattle.needs_of_functions.specs.Defined.{IsVariable}

-- the unit of the initialiser at hand, or of a new one, is opened
abbrev pub opens_initial : Bool → Step
opens_initial kept = initialiser_now ▷ λ i. keeps_at_work kept i ▷ λ u. opens_unit i.unit

-- a new initialiser, where the module is initialised
abbrev pub new_if : Bool → UnitAtWork → Option InitialiserAtWork → Option InitialiserAtWork
new_if true u old = Some (record { unit = u; values = [] })
new_if false u old = old

-- the unit is that of the initialiser, by other handles
abbrev pub IsUnitOf : Option InitialiserAtWork → UnitAtWork → Type 0
IsUnitOf o u = (i : InitialiserAtWork) × (o ≡ Some i) × SameUnit i.unit u

-- the type of the variable is wanted
abbrev pub wants_variable : Names → VariableDef → Step
wants_variable names d = variable_type names d ▷ λ t. some_over (λ env (w : Shared). IsCopy t.1 w.value) ▷ λ w. wants (Some w)

-- the variable, of this type and with this number, is one more of the package
pub record AddsVariable (names : Names) (d : VariableDef) (t : Shared) (number : ℕ) (s new : State) : Type 0 where
  pub ty : Ty
  pub found : IsVariable (entry_in names d.name.name s.site.scope.«module») number ty
  pub variable : ModuleVariable
  pub is : IsModuleVariable d s.site.scope t variable
  pub after : new ≡ record s { done = record s.done { variables = s.done.variables ++ variable ∷ [] } }
