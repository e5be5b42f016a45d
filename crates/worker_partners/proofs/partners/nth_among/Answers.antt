use Rattle.std.proofs.Common.{◌∙◌, arith, refl, sym}
use Rattle.std.proofs.lemmas.Bool.{both_ways}
use Rattle.worker_partners.specs.Partners.{is_on}
use Rattle.worker_partners.proofs.Sought.{sought-here, sought-less, sought-next, sought-none}
use Rattle.worker_partners.proofs.partners.nth_among.Goals as goal

pub returns-then-is_it-clause-found : goal.returns-then-is_it-clause-found
returns-then-is_it-clause-found c =
    let here = c.is_it.ensures.0 c.if-is_it.true in
    sought-here (is_on c.args.side) c.args.sayings.now c.loop-said.said-index c.loop-said.seen c.args.k c.said-item.result c.is_on-here.result c.loop-said.number (omega arith) c.said-item.is
    c.is_on-here.ensures c.loop-said.invariant.so c.loop-said.invariant.place here.0 here.1

pub loop-said-preserved : goal.loop-said-preserved
loop-said-preserved c =
    record {
      place = omega (arith, c.loop-said.invariant.place);
      few = omega (arith, c.loop-said.invariant.few, c.one_if-seen.ensures.small);
      so = sought-next (is_on c.args.side) c.args.sayings.now c.loop-said.said-index c.loop-said.seen c.args.k c.said-item.result c.is_on-here.result c.one_if-seen.result (omega arith) c.said-item.is
          c.is_on-here.ensures c.one_if-seen.ensures.is c.loop-said.invariant.so;
      less = sought-less (is_on c.args.side) c.args.sayings.now c.loop-said.said-index c.loop-said.seen c.args.k c.is_on-here.result c.one_if-seen.result c.one_if-seen.ensures.is c.loop-said.invariant.less
          (λ h. both_ways _ c.if-is_it.false (c.is_it.ensures.1 h));
    }

pub returns-clause-none : goal.returns-clause-none
returns-clause-none c = sought-none (is_on c.args.side) c.args.sayings.now c.loop-said.said-index c.loop-said.seen c.args.k (omega arith) c.loop-said.invariant.so c.loop-said.invariant.less
