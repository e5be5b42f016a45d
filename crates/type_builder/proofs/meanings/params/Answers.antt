use Rattle.std.proofs.Common.{arith}
use Rattle.descriptors.proofs.Drafting.{all-walked, handed-on, none-walked, one-walked, walk-ran_out, walk-stops}
use Rattle.descriptors.proofs.Walks.{types-row}
use Rattle.type_builder.specs.Meanings.{param_descriptor}
use Rattle.type_builder.proofs.Meant.{of-tree}
use Rattle.type_builder.proofs.meanings.params.Goals as goal

pub loop-p-init : goal.loop-p-init
loop-p-init c = none-walked _ _ _ _ _ (types-row c.args.names.now c.args.scope param_descriptor) c.args.params.now _ _ c.new-out.ensures.items

pub returns-in_err-t : goal.returns-in_err-t
returns-in_err-t c =
    handed-on _ _ _ _ _ _ _ c.from_residual.ensures (walk-stops _ _ _ _ _ (types-row c.args.names.now c.args.scope param_descriptor) c.args.params.now c.loop-p.p-index c.p-item.result c.loop-p.out.items _ _ _ _ (grind (arith, c.loop-p-test.true)) c.p-item.is c.loop-p.invariant
    (of-tree c.args.names.now c.args.scope _ _ _ _ _ c.deref.ensures c.in_err-t.ensures))

pub returns-in_err-push : goal.returns-in_err-push
returns-in_err-push c =
    handed-on _ _ _ _ _ _ _ c.from_residual-in_err-push.ensures (walk-ran_out _ _ _ _ _ (types-row c.args.names.now c.args.scope param_descriptor) c.args.params.now c.loop-p.p-index c.p-item.result c.loop-p.out.items _ _ _ _ (grind (arith, c.loop-p-test.true)) c.p-item.is c.loop-p.invariant
    (of-tree c.args.names.now c.args.scope _ _ _ _ _ c.deref.ensures c.in_ok-t.ensures))

pub loop-p-preserved : goal.loop-p-preserved
loop-p-preserved c =
    one-walked _ _ _ _ _ (types-row c.args.names.now c.args.scope param_descriptor) c.args.params.now c.loop-p.p-index c.p-item.result c.loop-p.out.items _ _ _ _ _ (grind (arith, c.loop-p-test.true)) c.p-item.is c.in_ok-push.ensures.items c.loop-p.invariant
    (of-tree c.args.names.now c.args.scope _ _ _ _ _ c.deref.ensures c.in_ok-t.ensures)

pub returns : goal.returns
returns c =
    all-walked _ _ _ _ _ (types-row c.args.names.now c.args.scope param_descriptor) c.args.params.now c.loop-p.p-index c.loop-p.out.items _ _ _ (grind (arith, c.loop-p-test.false)) c.of.ensures c.loop-p.invariant
