-- What is known before the places of a unit are asked about.
use Rattle.std.specs.Prelude.{◌≡◌, ◌≤◌, ℕ, List, Some, length, slice_get}
use Rattle.type_model.specs.declared.atoms.AtomDef.{AtomDef}
use Rattle.type_model.specs.Calls.{KeepsTypes}
use Rattle.code_verifier.specs.KindSets.{AreKnown}
use Rattle.needs_of_places.specs.declared.site.Site.{Site}
use Rattle.needs_of_commands.specs.Loans.{IsAlways}
use Rattle.callable_units.specs.Calling.{TellsCallable}
use Rattle.unit_checks.specs.declared.places.Checking.{Checking}

-- the atoms keep the types of the code, and `anydata` is known over them; the unit is one of the code, and it is told which can be called
pub record IsReady (site : Site) (checking : Checking) (env : List AtomDef) : Type 0 where
  pub keeps : KeepsTypes site.code.now.atoms env
  pub known : AreKnown env checking.serving.known.now
  pub always : IsAlways checking.serving.always.now
  pub callable : TellsCallable site.code.now checking.callable.now
  pub unit : (n : ℕ) × (slice_get site.code.now.units n ≡ Some site.unit.now)

-- the unit has its places in the code
abbrev pub HasPlaces : Site → Type 0
HasPlaces site = (site.unit.now.first ≤ site.unit.now.end) × (site.unit.now.end ≤ length site.code.now.instrs)
