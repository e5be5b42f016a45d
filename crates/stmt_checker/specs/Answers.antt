-- What a check of a package answers, of what the work has come to.
use Rattle.std.specs.Prelude.{◌≡◌, Option, Some, None, Result, Ok, Err}
use Rattle.bal_base.specs.declared.fault.Fault.{Fault}
use Rattle.bal_base.specs.declared.stop.Stop.{Stop}
use Rattle.bal_base.specs.declared.stop.Stop.TheVariants.{Memory, Fault as OwnFault}
use Rattle.bal_tree.specs.declared.package.Package.{Package}
use Rattle.descriptors.specs.declared.names.Names.{Names}
use Rattle.typed_tree.specs.declared.package.TypedPackage.{TypedPackage}
use Rattle.check_words.specs.State.{State}
use Rattle.package_checks.specs.Checked.{IsTyped}

module _ (names : Names) (p : Package) (s : State) where
  -- where the work met all needs: the typed package, where there was memory for it
  abbrev pub IsFound : Result TypedPackage (Stop Fault) → Type 0
  IsFound (Ok t) = IsTyped names p s t
  IsFound (Err (OwnFault f)) = ⊥
  IsFound (Err Memory) = Unit {0}

  abbrev pub IsAnswer : Option (Stop Fault) → Result TypedPackage (Stop Fault) → Type 0
  IsAnswer None r = IsFound r
  IsAnswer (Some stop) r = r ≡ Err stop
