-- Initial values of the variables of modules: all needs of one come to one initial value more, which is typed in the unit of the module's initialiser.
use Rattle.std.specs.Prelude.{All, Bool, IfSome, List, None, Option, Some, [], map, ℕ, ◌++◌, ◌∷◌, ◌≡◌}
use Rattle.bal_tree.specs.declared.def.VariableDef.{VariableDef}
use Rattle.check_words.specs.State.{InitialiserAtWork, Site, State, UnitAtWork}
use Rattle.descriptors.specs.Described.{IsCopy}
use Rattle.descriptors.specs.Naming.{entry_in}
use Rattle.descriptors.specs.declared.names.Entry.{Entry}
use Rattle.descriptors.specs.declared.names.Meaning.TheVariants as meaning
use Rattle.descriptors.specs.declared.names.Names.{Names}
use Rattle.eval_model.specs.Expressions.{nil_type}
use Rattle.operations.specs.Rows.{Surroundings}
use Rattle.stmt_needs.specs.PackageTable.{variable_needs}
use Rattle.tree_promises.specs.Placed.{Placed, initial_placed, slot_types}
use Rattle.type_model.specs.Calls.{Asked}
use Rattle.type_model.specs.Inclusion.{Sub}
use Rattle.type_model.specs.declared.answers.TypeLimit.{TypeLimit}
use Rattle.type_model.specs.declared.atoms.AtomDef.{AtomDef}
use Rattle.type_model.specs.declared.basic.SemType.{SemType}
use Rattle.type_model.specs.declared.basic.Ty.{Ty}
use Rattle.typed_exprs.specs.Lines.{Run}
use Rattle.typed_needs.specs.Between.{IsTypedUnit, IsUnitAt, place_within}
use Rattle.typed_needs.specs.Items.{AreFirst}
use Rattle.typed_needs.specs.Placing.{AreNamed, IsStored}
use Rattle.typed_stmts.specs.Assigned.{TakeValues}
use Rattle.typed_tree.specs.Listed.{joined, members}
use Rattle.typed_tree.specs.SharedTypes.{sem_of}
use Rattle.typed_tree.specs.declared.package.Initial.{Initial}
use Rattle.typed_tree.specs.declared.package.ModuleVariable.{ModuleVariable}
use Rattle.typed_units.specs.Bodies.{InitialIsTyped}

-- ---- between definitions

-- nothing is open, and no function is at hand
pub record IsAtRest (s : State) : Type 0 where
  pub found : s.found ≡ []
  pub blocks : s.blocks ≡ []
  pub matches : s.matches ≡ []
  pub units : s.units ≡ []
  pub results : s.site.results ≡ []
  pub workers : s.done.workers ≡ []

-- the initial values of the module at hand that are done
abbrev pub values_of : Option InitialiserAtWork → List Initial
values_of None = []
values_of (Some i) = i.values

abbrev pub units_of_values : List Initial → List Placed
units_of_values is = members (joined (map initial_placed is))

-- of the slots of the unit those that are there by now are the first ones
pub record IsPartOf (u : Placed) (w : UnitAtWork) : Type 0 where
  pub later : List SemType
  pub slots : slot_types u.tree.unit ≡ map sem_of w.slots ++ later
  pub result : sem_of u.tree.unit.result ≡ sem_of w.result

-- what the names of the package say of the variable
pub record IsVariable (names : Names) (d : VariableDef) (site : Site) (number : ℕ) (t : Ty) : Type 0 where
  pub entry : Entry
  pub final : Bool
  pub there : entry_in names d.name.name site.scope.«module» ≡ Some entry
  pub meaning : entry.meaning ≡ meaning.Variable number final t

-- ---- the initialiser of the module at hand, which becomes this unit

module _ (env : List AtomDef) (place : Surroundings) (u : Placed) where
  -- what is known of its unit: its variables are in its slots, and nil is one of its results
  pub record UnitIsKnown (w : UnitAtWork) : Type 0 where
    pub stored : All (IsStored (place_within place u)) w.flow.variables
    pub nil : Sub env nil_type (sem_of w.result)

  -- its values so far are typed, and the functions in them in units of their own
  pub record InitialiserIsKnown (s : State) : Type 0 where
    pub unit : IfSome s.initialiser (λ i. UnitIsKnown i.unit)
    pub values : All (InitialIsTyped env place u) (values_of s.initialiser)
    pub units : All (IsTypedUnit env place) (units_of_values (values_of s.initialiser))

  -- what there is by now is the first part of what there is at the end
  pub record InitialiserIsFar (s : State) : Type 0 where
    pub first : AreFirst env s.atoms
    pub part : IfSome s.initialiser (λ i. IsPartOf u i.unit)
    pub units : All (IsUnitAt place) (units_of_values (values_of s.initialiser))

module _ (passes : List AtomDef → Asked → TypeLimit → Type 0) (names : Names) (env : List AtomDef) (place : Surroundings) where
  -- A variable more is done, and of a module that is initialised a value: it is typed where the place has the package's variables and functions.
  pub record AddsInitial (d : VariableDef) (old new : State) : Type 0 where
    pub rest : IsAtRest new
    pub scope : new.site.scope ≡ old.site.scope
    -- it is of the type that its name stands for
    pub variable : ModuleVariable
    pub variables : new.done.variables ≡ old.done.variables ++ variable ∷ []
    pub number : ℕ
    pub type : Ty
    pub named : IsVariable names d old.site number type
    pub copied : IsCopy type variable.ty.value
    pub functions : new.done.functions ≡ old.done.functions
    pub initialisers : new.done.initialisers ≡ old.done.initialisers
    pub more : List AtomDef
    pub atoms : new.atoms ≡ old.atoms ++ more
    pub far : (u : Placed) → InitialiserIsFar env place u new → InitialiserIsFar env place u old
    pub known : AreNamed env names place → TakeValues env names place → (u : Placed) → InitialiserIsFar env place u new → InitialiserIsKnown env place u old → InitialiserIsKnown env place u new

  abbrev pub InitialValueIsTyped : Type 0
  InitialValueIsTyped = (d : VariableDef) (kept : Bool) (old new : State) → Run passes names env (variable_needs kept d) old new → IsAtRest old → AddsInitial d old new

abbrev pub AllInitialValuesAreTyped : (List AtomDef → Asked → TypeLimit → Type 0) → Type 0
AllInitialValuesAreTyped passes = (names : Names) (env : List AtomDef) (place : Surroundings) → InitialValueIsTyped passes names env place
