-- How a state goes on from need to need: atoms come behind those that are there, and units stay the same units.
use Rattle.std.specs.Prelude.{◌≡◌, ◌≤◌, ◌++◌, ℕ, List, length, map, take}
use Rattle.std.specs.List.{AllZip}
use Rattle.checks.specs.Checks.{Gives}
use Rattle.descriptors.specs.declared.names.Names.{Names}
use Rattle.type_model.specs.declared.answers.TypeLimit.{TypeLimit}
use Rattle.type_model.specs.declared.atoms.AtomDef.{AtomDef}
use Rattle.type_model.specs.declared.basic.SemType.{SemType}
use Rattle.type_model.specs.Calls.{Asked}
use Rattle.typed_tree.specs.SharedTypes.{sem_of}
use Rattle.expr_needs.specs.Needs.{Need}
use Rattle.check_words.specs.Meets.{meets}
use Rattle.check_words.specs.Sharing.{SameCaptured}
use Rattle.check_words.specs.State.{State, UnitAtWork}
use Rattle.check_laws.specs.Effects.{effect}
use Rattle.check_laws.specs.Laws.{Finds}

-- The same unit: slots come behind those that it has, and of its variables other things may be known. It captures the same variables.
pub record IsSameUnit (u v : UnitAtWork) : Type 0 where
  pub number : v.number ≡ u.number
  pub worker : v.worker ≡ u.worker
  pub params : v.params ≡ u.params
  pub rest : v.rest ≡ u.rest
  pub arrow : v.arrow ≡ u.arrow
  pub future : v.future ≡ u.future
  pub result : sem_of v.result ≡ sem_of u.result
  pub more : List SemType
  pub slots : map sem_of v.slots ≡ map sem_of u.slots ++ more
  pub captured : AllZip SameCaptured u.captured v.captured

-- Each unit that was there is there, and more may stand on them.
pub record GoesOn (old new : State) : Type 0 where
  pub more : List AtomDef
  pub atoms : new.atoms ≡ old.atoms ++ more
  pub going : List UnitAtWork
  pub above : List UnitAtWork
  pub units : new.units ≡ going ++ above
  pub each : AllZip IsSameUnit old.units going

-- Of the units that were there the first ones are there, whatever became of those above them.
pub record GoesOnBelow (count : ℕ) (old new : State) : Type 0 where
  pub more : List AtomDef
  pub atoms : new.atoms ≡ old.atoms ++ more
  pub there : count ≤ length new.units
  pub each : AllZip IsSameUnit (take count old.units) (take count new.units)

-- Where a need finds what it takes on a state, and is met, all units of that state go on.
abbrev pub NeedsGoOn : (List AtomDef → Asked → TypeLimit → Type 0) → Type 0
NeedsGoOn passes =
    (names : Names) (base old new : State) (need : Need) → Finds (effect base.site.workers need) base old → length base.units ≤ length old.units
    → meets passes names need old (Gives tt) new → GoesOnBelow (length base.units) old new
