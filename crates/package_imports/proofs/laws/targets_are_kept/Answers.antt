use Rattle.package_imports.proofs.Moved.{keeps-targets}
use Rattle.package_imports.proofs.laws.targets_are_kept.Goals as goal

pub returns : goal.returns
returns c = keeps-targets
