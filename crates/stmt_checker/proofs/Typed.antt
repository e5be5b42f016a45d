-- What isolation looks at in a package that was checked.
use Rattle.std.specs.Prelude.{IfOk, List, Result, Ok, Err, length}
use Rattle.bal_base.specs.declared.fault.Fault.{Fault}
use Rattle.bal_base.specs.declared.stop.Stop.{Stop}
use Rattle.bal_tree.specs.declared.package.Package.{Package}
use Rattle.checks.specs.Checks.{Comes}
use Rattle.descriptors.specs.declared.names.Names.{Names}
use Rattle.descriptors.specs.Steps.{AreNames}
use Rattle.type_model.specs.declared.answers.TypeLimit.{TypeLimit}
use Rattle.type_model.specs.declared.atoms.AtomDef.{AtomDef}
use Rattle.type_model.specs.Calls.{Asked}
use Rattle.type_model.specs.Defined.{IsEnv}
use Rattle.typed_tree.specs.declared.package.TypedPackage.{TypedPackage}
use Rattle.isolation_check.specs.Typed.{AreTyped}
use Rattle.package_checks.specs.Checked.{checked_package}
use Rattle.package_atoms.proofs.Law.{checked-packages-are-typed}

pub answer-typed : (passes : List AtomDef → Asked → TypeLimit → Type 0) (names : Names) (p : Package) (env behind : List AtomDef)
    (r : Result TypedPackage (Stop Fault)) → IsEnv env → AreNames env names → Comes (checked_package passes names p) env r behind → IfOk r (AreTyped (length behind))
unfolding Comes
answer-typed passes names p env behind (Ok t) is named h = (checked-packages-are-typed passes names p env t behind is named h).typed
answer-typed passes names p env behind (Err stop) is named h = tt
