use Rattle.std.proofs.Common.{IfOk, map, subst, sym}
use Rattle.std.specs.List.{AllZip}
use Rattle.lower_model.specs.Assembled.{HasUnits}
use Rattle.map_model.specs.Whole.{IsMapOf}
use Rattle.package_units.specs.Held.{tree_of}
use Rattle.code_maps.specs.Given.{plain_of}
use Rattle.code_maps.proofs.Summing.{all-points}
use Rattle.code_maps.proofs.packages.package_maps.Goals as goal

pub returns : goal.returns
returns c =
    subst (λ points. IfOk c.maps.result (λ ms. AllZip IsMapOf ms.items points))
    (all-points (plain_of c.args.plain.now) c.args.package.now c.in_ok-crews.crews.counts.items c.in_ok-crews.ensures (map tree_of c.deref.result.now)
    (subst (λ us. HasUnits c.args.package.now (map tree_of us)) (sym c.deref.ensures.value) c.in_ok-us.ensures.units)) c.maps.ensures
