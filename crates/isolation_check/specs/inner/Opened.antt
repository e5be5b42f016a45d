-- A walk as it is held: bodies by references to their parts, and how many of these are done.
use Rattle.std.specs.Prelude.{◌≡◌, ◌+◌, ◌*◌, ◌++◌, ℕ, zero, suc, Bool, true, false, List, [], ◌∷◌, Result, Ok, Err, All, Some, drop, length, map, option_map, slice_get}
use Rattle.bal_base.specs.declared.fault.Fault.{Fault}
use Rattle.bal_base.specs.declared.stop.Stop.{Stop}
use Rattle.bal_base.specs.declared.stop.Stop.TheVariants.{Memory, Fault as OwnFault}
use Rattle.type_model.specs.declared.answers.TypeLimit.{TypeLimit}
use Rattle.type_model.specs.declared.atoms.AtomDef.{AtomDef}
use Rattle.type_model.specs.Calls.{Asked}
use Rattle.typed_tree.specs.declared.package.TypedPackage.{TypedPackage}
use Rattle.typed_tree.specs.declared.unit.TypedFunction.{TypedFunction}
use Rattle.checks.specs.Checks.{Gives, Outcome, Refuses}
use Rattle.descriptors.specs.declared.names.OwnTypes.{OwnTypes}
use Rattle.isolation_check.specs.declared.walk.Bodies.{Bodies}
use Rattle.isolation_check.specs.declared.walk.OpenBody.{OpenBody}
use Rattle.isolation_check.specs.declared.walk.Walk.{Walk}
use Rattle.isolation_check.specs.inner.Judging.{VariablesBelow}
use Rattle.isolation_check.specs.Typed.{PartBelow}
use Rattle.isolation_check.specs.inner.Views.{parts_of}
use Rattle.isolation_check.specs.Isolated.{own_parts}
use Rattle.isolation_check.specs.Parts.{Part, function_parts}
use Rattle.isolation_check.specs.Walk.{Open, Walks}

abbrev pub open_of : OpenBody → Open
open_of b = record { name = option_map (λ n. n.now) b.name; left = parts_of (drop b.done b.parts.now) }

-- the functions that weren't entered yet
abbrev pub unentered : List Bool → ℕ
unentered [] = zero
unentered (true ∷ bs) = unentered bs
unentered (false ∷ bs) = suc (unentered bs)

-- how often a body is opened or left from here on
abbrev pub left : List Bool → ℕ → ℕ
left entered n = 2 * unentered entered + n

-- what is known of a package is so, and each type at hand names atoms that are there
pub record AreBodies (n : ℕ) (b : Bodies) : Type 0 where
  pub parts : map (λ v. parts_of v.items) b.parts.now ≡ map (λ f. own_parts (function_parts f)) b.«package».now.functions.items
  pub below : All (λ v. All (PartBelow n) (parts_of v.items)) b.parts.now
  pub variables : VariablesBelow n b.«package».now

-- the body of the function is opened, the innermost one then
abbrev pub OpensBody : Bodies → ℕ → List Open → List OpenBody → Type 0
OpensBody b u before after = (f : TypedFunction) × (slice_get b.«package».now.functions.items u ≡ Some f)
    × (map open_of after ≡ before ++ record { name = Some f.name; left = own_parts (function_parts f) } ∷ [])

-- all parts of open bodies
abbrev pub AreBelow : ℕ → List OpenBody → Type 0
AreBelow n = All (λ b. All (PartBelow n) (parts_of b.parts.now))

module _ (passes : List AtomDef → Asked → TypeLimit → Type 0) (b : Bodies) (env : List AtomDef) where
  abbrev pub WalksOn : List Open → List Bool → Outcome (Unit {0}) → Type 0
  WalksOn = Walks passes b.own.now b.«package».now env

  -- whatever comes of the new state comes of the old one
  abbrev pub Resumes : List Open → List Bool → List Open → List Bool → Type 0
  Resumes old before new after = (o : Outcome (Unit {0})) → WalksOn new after o → WalksOn old before o

  -- one body more is opened, or it is left; or the walk has ended
  abbrev pub GoesOn : List Open → List Bool → Walk → Result (Unit {0}) (Stop Fault) → Type 0
  GoesOn old before new (Ok u) =
      Resumes old before (map open_of new.stack.items) new.entered.items × (left new.entered.items (length new.stack.items) + 1 ≡ left before (length old))
  GoesOn old before new (Err (OwnFault f)) = WalksOn old before (Refuses f)
  GoesOn old before new (Err Memory) = Unit {0}

  abbrev pub Ends : List Open → List Bool → Result (Unit {0}) (Stop Fault) → Type 0
  Ends old before (Ok u) = WalksOn old before (Gives u)
  Ends old before (Err (OwnFault f)) = WalksOn old before (Refuses f)
  Ends old before (Err Memory) = Unit {0}
