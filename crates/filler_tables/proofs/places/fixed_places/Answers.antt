use Rattle.std.proofs.Common.{arith}
use Rattle.code_verifier.proofs.Zipping.{zip-more}
use Rattle.filler_tables.specs.Asked.{IsPlaceOf}
use Rattle.filler_tables.proofs.places.fixed_places.Goals as goal

pub loop-t-preserved : goal.loop-t-preserved
loop-t-preserved c =
    zip-more IsPlaceOf c.args.fixed.now c.loop-t.places.items _ c.loop-t.t-index c.t-item.result c.in_ok-place_of.field-0 (omega arith) c.t-item.is c.loop-t.invariant c.in_ok-place_of.ensures c.in_ok-push.ensures.items
