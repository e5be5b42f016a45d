use Rattle.std.proofs.Common.{subst, sym}
use Rattle.empty_product.specs.Slots.{TellsNarrowed, asking_of, place_of}
use Rattle.empty_product.proofs.slots.narrow_slot.Goals as goal

pub returns-then-absent-clause-tells : goal.returns-then-absent-clause-tells
returns-then-absent-clause-tells g c =
    let kept = g.M.Member.kept c.args.m.now in
    subst (λ b. TellsNarrowed c.args.dia.now kept (place_of c.args.dia.now c.args.slot) (asking_of c.args.dia.now c.args.demand) b c.without_part.result) (sym c.if-absent.true) (c.without_part.ensures kept)
