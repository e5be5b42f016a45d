use Rattle.package_checks.proofs.ByNeeds.{checked-by-needs, refused-by-first-need}
use Rattle.package_checks.proofs.laws.packages_are_checked_need_by_need.Goals as goal

pub returns-clause-checked : goal.returns-clause-checked
returns-clause-checked g c = checked-by-needs g.T.Types.passes

pub returns-clause-refused : goal.returns-clause-refused
returns-clause-refused g c = refused-by-first-need g.T.Types.passes
