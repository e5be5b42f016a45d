-- What a checked package says of its types.
use Rattle.std.specs.Prelude.{◌≤◌, List, length}
use Rattle.bal_tree.specs.declared.package.Package.{Package}
use Rattle.checks.specs.Checks.{Gives}
use Rattle.descriptors.specs.declared.names.Names.{Names}
use Rattle.descriptors.specs.Steps.{AreNames}
use Rattle.type_model.specs.declared.answers.TypeLimit.{TypeLimit}
use Rattle.type_model.specs.declared.atoms.AtomDef.{AtomDef}
use Rattle.type_model.specs.Calls.{Asked}
use Rattle.type_model.specs.Defined.{IsEnv}
use Rattle.typed_tree.specs.declared.package.TypedPackage.{TypedPackage}
use Rattle.isolation_check.specs.Typed.{AreTyped}
use Rattle.package_checks.specs.Checked.{checked_package}

-- No atom is taken away, and what isolation looks at in the typed package has types that name atoms that are there behind the check.
pub record IsTypedOver (old new : List AtomDef) (t : TypedPackage) : Type 0 where
  pub grows : length old ≤ length new
  pub typed : AreTyped (length new) t

-- `passes`: which questions pass a limit
abbrev pub CheckedPackagesAreTyped : (List AtomDef → Asked → TypeLimit → Type 0) → Type 0
CheckedPackagesAreTyped passes =
    (names : Names) (p : Package) (old : List AtomDef) (t : TypedPackage) (new : List AtomDef) → IsEnv old → AreNames old names
    → checked_package passes names p old (Gives t) new → IsTypedOver old new t
