use Rattle.std.proofs.Common.{map}
use Rattle.std.specs.BTreeMap.{values}
use Rattle.package_modules.proofs.Naming.{modules-come}
use Rattle.package_modules.proofs.modules.modules_of.Goals as goal

pub returns : goal.returns
returns c =
    let folders = map (λ f. f.«module») (values c.args.sources.now) in
    modules-come folders c.in_ok-folders.folders.items c.as_slice.result.now c.in_ok-known.known.keys c.in_ok-folders.ensures c.as_slice.ensures.value c.in_ok-known.ensures
    (λ v. v.items) c.names_in.result c.names_in.ensures.are c.names_in.ensures.rising
