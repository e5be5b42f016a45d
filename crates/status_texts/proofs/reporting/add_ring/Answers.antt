use Rattle.std.proofs.Common.{codes, get_or}
use Rattle.std.specs.Prelude.{decimal}
use Rattle.text_forms.proofs.Adding.{adds-joined_more}
use Rattle.status_texts.proofs.Texts.{same-else}
use Rattle.status_texts.proofs.reporting.add_ring.Goals as goal

pub loop-i-preserved : goal.loop-i-preserved
loop-i-preserved c =
    let ring = c.args.ring.now in
    let i = c.loop-i.i in
    adds-joined_more decimal (codes " -> ") ring i (get_or ring i 0) _ _ _ _ c.loop-i-test.true (same-else ring i 0 (get_or ring i 0) c.loop-i-test.true) c.loop-i.invariant c.in_ok-add_if.ensures c.in_ok-add_strand.ensures
