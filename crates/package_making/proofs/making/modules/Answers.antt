use Rattle.std.proofs.Common.{◌∙◌, arith, get_or, map, refl}
use Rattle.package_making.specs.Making.{numbered}
use Rattle.package_making.specs.inner.Ranked.{ranked}
use Rattle.package_making.proofs.Grouped.{later-stay, modules-more}
use Rattle.package_making.proofs.making.modules.Goals as goal

pub loop-place-preserved : goal.loop-place-preserved
loop-place-preserved c =
    let names = c.args.names.now in
    let next = map (λ v. v.items) c.args.next.now in
    let order = c.args.order.now in
    let files = numbered c.args.numbers.now 0 c.args.read.items in
    let place = c.loop-place.place in
    let inv = c.loop-place.invariant in
    let parts = c.in_ok-files.field-0 in (
      c.in_ok-push.ensures.items
          ∙ modules-more names next order files place (get_or order place 0) c.loop-place.made.items c.loop-place.rest.items parts.files.items c.in_ok-module.module c.loop-place-test.true refl inv.0 (inv.1 place (omega arith)) c.in_ok-files.ensures.files c.in_ok-module.ensures,
      λ k later. later-stay place (ranked order files) c.loop-place.rest.items parts.others.items inv.1 c.in_ok-files.ensures.others k later,
    )
