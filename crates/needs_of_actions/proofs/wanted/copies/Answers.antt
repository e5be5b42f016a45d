use Rattle.std.proofs.Common.{◌+◌, arith, subst, sym, take}
use Rattle.std.specs.List.{AllZip}
use Rattle.needs_of_actions.specs.Awaited.{IsCopyIf}
use Rattle.needs_of_actions.proofs.Zipped.{zips-more}
use Rattle.needs_of_actions.proofs.wanted.copies.Goals as goal

pub loop-want-preserved : goal.loop-want-preserved
loop-want-preserved c =
    subst (AllZip IsCopyIf (take (c.loop-want.want-index + 1) c.args.wants.now)) (sym c.in_ok-push.ensures.items)
    (zips-more IsCopyIf c.args.wants.now c.loop-want.copies.items c.loop-want.want-index c.want-item.result c.in_ok-copy_of.field-0 (omega arith) c.want-item.is c.loop-want.invariant c.in_ok-copy_of.ensures)
