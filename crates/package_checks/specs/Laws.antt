-- What becomes of a package, need by need.
use Rattle.std.specs.Prelude.{◌≡◌, ◌↔◌, List}
use Rattle.bal_base.specs.declared.fault.Fault.{Fault}
use Rattle.bal_tree.specs.declared.package.Package.{Package}
use Rattle.checks.specs.Checks.{Gives, Refuses}
use Rattle.descriptors.specs.declared.names.Names.{Names}
use Rattle.needs.specs.Laws.{AreMet, FirstRefuses}
use Rattle.type_model.specs.declared.answers.TypeLimit.{TypeLimit}
use Rattle.type_model.specs.declared.atoms.AtomDef.{AtomDef}
use Rattle.type_model.specs.Calls.{Asked}
use Rattle.typed_tree.specs.declared.package.TypedPackage.{TypedPackage}
use Rattle.typed_tree.specs.Listed.{members}
use Rattle.check_words.specs.Meets.{meets}
use Rattle.check_words.specs.State.{State}
use Rattle.stmt_needs.specs.PackageTable.{package_needs}
use Rattle.package_checks.specs.Checked.{IsTyped, at_first, checked_package, standing}

module _ (passes : List AtomDef → Asked → TypeLimit → Type 0) where
  -- all needs of the package are met in turn, and the typed package is what was found then
  abbrev pub IsCheckedByNeeds : Type 0
  IsCheckedByNeeds =
      (names : Names) (p : Package) (old : List AtomDef) (t : TypedPackage) (new : List AtomDef)
      → checked_package passes names p old (Gives t) new
      ↔ ((s : State) × AreMet (standing names (meets passes names)) (members (package_needs p)) (at_first old p) s × IsTyped names p s t × (new ≡ s.atoms))

  -- those before one need are met, and this one is refused with the fault
  abbrev pub IsRefusedByFirstNeed : Type 0
  IsRefusedByFirstNeed =
      (names : Names) (p : Package) (old : List AtomDef) (f : Fault) (new : List AtomDef)
      → checked_package passes names p old (Refuses f) new
      ↔ ((s : State) × FirstRefuses (standing names (meets passes names)) (members (package_needs p)) (at_first old p) f s × (new ≡ s.atoms))
