use Rattle.std.proofs.Common.{subst, sym}
use Rattle.code_maps.specs.Given.{AreMapsOf}
use Rattle.lower_package.proofs.packages.lower.Goals as goal

pub returns-clause-maps : goal.returns-clause-maps
returns-clause-maps c = subst (AreMapsOf c.args.package.now) (sym c.in_ok-code.ensures.maps) c.in_ok-maps.ensures
