use Rattle.package_atoms.proofs.Law.{checked-packages-are-typed}
use Rattle.package_atoms.proofs.laws.checked_packages_are_typed.Goals as goal

pub returns : goal.returns
returns g c = checked-packages-are-typed g.T.Types.passes
