-- Functions as a whole: from where one begins to where it ends all its units are typed, its own, those of its workers, and those of the anonymous functions in it.
use Rattle.std.specs.List.{AllZip}
use Rattle.std.specs.Prelude.{All, List, Some, [], ◌++◌, ◌∷◌, ◌≡◌}
use Rattle.bal_tree.specs.declared.def.FunctionDef.{FunctionDef}
use Rattle.check_words.specs.State.{State}
use Rattle.check_words.specs.Units.{signature_in}
use Rattle.descriptors.specs.Naming.{entry_in}
use Rattle.descriptors.specs.declared.names.Signature.{Signature}
use Rattle.descriptors.specs.declared.names.Names.{Names}
use Rattle.operations.specs.Rows.{Signature as UnitSignature, Surroundings}
use Rattle.stmt_needs.specs.PackageTable.{function_needs}
use Rattle.tree_promises.specs.Placed.{function_placed, signature_of}
use Rattle.type_model.specs.Calls.{Asked}
use Rattle.type_model.specs.Inclusion.{Sub}
use Rattle.type_model.specs.declared.answers.TypeLimit.{TypeLimit}
use Rattle.type_model.specs.declared.atoms.AtomDef.{AtomDef}
use Rattle.typed_definitions.specs.Acting.{ActsOnItsOwn}
use Rattle.typed_exprs.specs.Lines.{Run}
use Rattle.typed_needs.specs.Between.{IsTypedUnit}
use Rattle.typed_needs.specs.Placing.{AreNamed, parameter_types}
use Rattle.typed_stmts.specs.Assigned.{TakeValues}
use Rattle.typed_tree.specs.Listed.{members}
use Rattle.typed_tree.specs.declared.unit.TypedFunction.{TypedFunction}
use Rattle.typed_units.specs.Functions.{HasFunctions, unit_of_function}

-- the unit takes what the parameters may be, and gives what the result may be
pub record IsUnitBy (env : List AtomDef) (f : Signature) (u : UnitSignature) : Type 0 where
  pub params : AllZip (Sub env) (parameter_types env f) u.params
  pub captured : u.captured ≡ []
  pub result : Sub env u.result f.result.sem
  pub arrow : u.arrow ≡ f.arrow
  pub future : u.future ≡ f.future

module _ (passes : List AtomDef → Asked → TypeLimit → Type 0) (names : Names) (env : List AtomDef) (place : Surroundings) where
  -- One function more is done, none of its workers is left, and atoms came behind those that were there. Where the place has the package's variables and functions, what there is
  -- at its end is the first part of what there is at the end of all, and each action in it is of another worker, all its units are typed.
  pub record AddsFunction (d : FunctionDef) (old new : State) : Type 0 where
    pub function : TypedFunction
    pub functions : new.done.functions ≡ old.done.functions ++ function ∷ []
    -- its unit is that of the signature that its name stands for
    pub signature : Signature
    pub named : signature_in (entry_in names d.name.name old.site.scope.«module») ≡ signature ∷ []
    pub number : function.unit.number ≡ signature.unit
    pub fits : IsUnitBy env signature (signature_of (Some (unit_of_function function)))
    pub units : AreNamed env names place → TakeValues env names place → HasFunctions passes names env place new → ActsOnItsOwn d
        → All (IsTypedUnit env place) (members (function_placed function))
    pub workers : new.done.workers ≡ []
    pub initialisers : new.done.initialisers ≡ old.done.initialisers
    pub variables : new.done.variables ≡ old.done.variables
    pub results : new.site.results ≡ []
    pub more : List AtomDef
    pub atoms : new.atoms ≡ old.atoms ++ more

  abbrev pub WholeFunctionIsTyped : Type 0
  WholeFunctionIsTyped = (d : FunctionDef) (old new : State) → Run passes names env (function_needs d) old new → old.done.workers ≡ [] → AddsFunction d old new

abbrev pub AllWholeFunctionsAreTyped : (List AtomDef → Asked → TypeLimit → Type 0) → Type 0
AllWholeFunctionsAreTyped passes = (names : Names) (env : List AtomDef) (place : Surroundings) → WholeFunctionIsTyped passes names env place
