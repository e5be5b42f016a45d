use Rattle.code_needs.specs.PlaceNeeds.{begins_below}
use Rattle.needs_of_rows.proofs.Finding.{found-as}
use Rattle.needs_of_commands.proofs.Descent.{chain-end, chain-more, chain-none, from-first, smaller}
use Rattle.needs_of_commands.proofs.chains.chain.Goals as goal

pub loop-next-init : goal.loop-next-init
loop-next-init c = chain-none c.args.first c.args.rows.now c.args.code.now c.args.place c.args.innermost _ c.requires.chain

pub outside-next-requires : goal.outside-next-requires
outside-next-requires c = from-first c.args.first c.args.rows.now c.args.code.now c.args.place c.args.innermost c.loop-next.next c.in-Some.trap _ _ c.in-Some.is c.loop-next.invariant

pub loop-next-smaller : goal.loop-next-smaller
loop-next-smaller c = smaller c.args.first c.args.rows.now c.args.code.now c.args.place c.args.innermost c.loop-next.next c.outside-next.result c.in-Some.trap _ _ c.in-Some.is c.loop-next.invariant c.requires.descends c.outside-next.ensures

pub loop-next-preserved : goal.loop-next-preserved
loop-next-preserved c =
    chain-more c.args.first c.args.rows.now c.args.code.now c.args.place c.args.innermost c.loop-next.next c.outside-next.result c.in-Some.trap _ _ _ c.in-Some.is c.loop-next.invariant
    (found-as _ _ _ _ (λ i. begins_below (c.stack_at-types.ensures i) (c.stack_at-below.ensures i)) c.begins_below.ensures) c.outside-next.ensures

pub returns : goal.returns
returns c = chain-end c.args.first c.args.rows.now c.args.code.now c.args.place c.args.innermost c.loop-next.next _ _ c.in_default.not-Some c.loop-next.invariant
