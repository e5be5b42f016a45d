use Rattle.std.proofs.Common.{◌≡◌, subst, IfOk}
use Rattle.name_resolution.specs.Outlines.{outlines_from}
use Rattle.name_resolution.proofs.outlines.package_outlines.Goals as goal

pub returns : goal.returns
returns c =
    subst (λ home. IfOk c.modules_outlines.result (λ made. made.items ≡ outlines_from home 0 c.args.«package».now.modules)) c.in_ok-home.ensures
    (subst (λ ms. IfOk c.modules_outlines.result (λ made. made.items ≡ outlines_from c.in_ok-home.home 0 ms)) c.as_slice.ensures c.modules_outlines.ensures)
