use Rattle.std.proofs.Common.{subst}
use Rattle.type_model.specs.declared.basic.Ty.{Ty}
use Rattle.std.specs.Prelude.{Option}
use Rattle.code_needs.specs.Combining.{need, of_some}
use Rattle.code_needs.specs.Needs.{Below}
use Rattle.needs_of_rows.specs.Finding.{Finds}
use Rattle.needs_of_rows.proofs.Finding.{found-nothing}
use Rattle.needs_of_rows.proofs.Items.{items-more, items-whole}
use Rattle.needs_of_rows.proofs.structures.items_fit.Goals as goal

pub loop-k-init : goal.loop-k-init
loop-k-init c = found-nothing _

pub loop-k-preserved : goal.loop-k-preserved
loop-k-preserved c =
    items-more c.args.fixed.now c.args.rest.now c.args.items.now c.loop-k.k c.index-items-k.result _ _ _ c.loop-k-test.true c.index-items-k.is c.loop-k.invariant
    (subst (λ (o : Option Ty). Finds (of_some o (λ t. need (Below c.index-items-k.result t.sem))) c.loop-k.found c.item_fits.new.found) c.type_at.ensures c.item_fits.ensures)

pub returns : goal.returns
returns c = items-whole c.args.fixed.now c.args.rest.now c.args.items.now c.loop-k.k _ _ c.loop-k-test.false c.loop-k.invariant
