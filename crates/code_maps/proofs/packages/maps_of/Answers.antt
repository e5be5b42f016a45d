use Rattle.code_maps.specs.Given.{plain_of}
use Rattle.code_maps.proofs.Summing.{maps-given}
use Rattle.code_maps.proofs.packages.maps_of.Goals as goal

pub returns : goal.returns
returns c = maps-given (plain_of c.in_ok-plain.plain) c.args.package.now c.package_maps.result c.in_ok-plain.ensures c.package_maps.ensures
