use Rattle.plain_run.proofs.Comparing.{compared-done, compared-stuck}
use Rattle.plain_run.proofs.Operands.{on-two}
use Rattle.plain_run.specs.declared.effect.Performed.TheVariants.{Stuck}
use Rattle.plain_run.specs.Effects.{IsPerformed}
use Rattle.plain_run.specs.Values.{comparison_of}
use Rattle.plain_run.proofs.values.perform_compare.Goals as goal

pub returns-in-Some-clause-row : goal.returns-in-Some-clause-row
returns-in-Some-clause-row c = λ facts caller.
    on-two (λ vs. IsPerformed facts (comparison_of c.args.how) vs caller c.args.common.now c.args.common.now ⊥ c.told.result) c.args.operands.now c.a-item.result c.b-item.result c.in-len2.len_at_least c.in-len2.len_below c.a-item.is c.b-item.is
    (compared-done c.a-item.result c.b-item.result facts caller c.args.common.now c.args.how c.in-Some.holds c.told.result c.in-Some.ensures c.told.ensures)

pub returns-in-None-clause-row : goal.returns-in-None-clause-row
returns-in-None-clause-row c = λ facts caller.
    on-two (λ vs. IsPerformed facts (comparison_of c.args.how) vs caller c.args.common.now c.args.common.now ⊥ Stuck) c.args.operands.now c.a-item.result c.b-item.result c.in-len2.len_at_least c.in-len2.len_below c.a-item.is c.b-item.is
    (compared-stuck c.a-item.result c.b-item.result facts caller c.args.common.now c.args.how c.in-None.ensures)
