use Rattle.std.proofs.Common.{ap, map}
use Rattle.type_builder.proofs.FlatShapes.{flat-came}
use Rattle.type_builder.proofs.flat.flat_union.Goals as goal

pub returns : goal.returns
returns c =
    flat-came (λ m. m.now) c.args.t.now _ c.gather.new.found c.deref.result.now c.union.result (ap (map (λ m. m.now)) c.deref.ensures.value) (ap (map (λ m. m.now)) c.new.ensures.items) c.new-2.ensures.empty
    c.in_ok-gather.ensures c.union.ensures
