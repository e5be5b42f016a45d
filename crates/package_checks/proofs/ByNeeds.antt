-- A check of a package, need by need.
use Rattle.std.proofs.Common.{List}
use Rattle.needs.proofs.Members.{met-all, refused-all}
use Rattle.type_model.specs.declared.answers.TypeLimit.{TypeLimit}
use Rattle.type_model.specs.declared.atoms.AtomDef.{AtomDef}
use Rattle.type_model.specs.Calls.{Asked}
use Rattle.check_words.specs.Meets.{meets}
use Rattle.stmt_needs.specs.PackageTable.{package_needs}
use Rattle.package_checks.specs.Checked.{at_first, checked_package, standing}
use Rattle.package_checks.specs.Laws.{IsCheckedByNeeds, IsRefusedByFirstNeed}

module _ (passes : List AtomDef → Asked → TypeLimit → Type 0) where
  pub checked-by-needs : IsCheckedByNeeds passes
  unfolding checked_package
  checked-by-needs names p old t new = (
    λ h. (h.0, (met-all (standing names (meets passes names)) (package_needs p) (at_first old p) h.0).0 h.1, h.2, h.3),
    λ h. (h.0, (met-all (standing names (meets passes names)) (package_needs p) (at_first old p) h.0).1 h.1, h.2, h.3),
  )

  pub refused-by-first-need : IsRefusedByFirstNeed passes
  unfolding checked_package
  refused-by-first-need names p old f new = (
    λ h. (h.0, (refused-all (standing names (meets passes names)) (package_needs p) (at_first old p) f h.0).0 h.1, h.2),
    λ h. (h.0, (refused-all (standing names (meets passes names)) (package_needs p) (at_first old p) f h.0).1 h.1, h.2),
  )
