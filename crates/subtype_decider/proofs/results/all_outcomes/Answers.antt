use Rattle.std.proofs.Common.{◌∷◌, arith, subst}
use Rattle.std.proofs.lemmas.List.{take_all}
use Rattle.empty_arrow.specs.Giving.{IsMeeting}
use Rattle.subtype_decider.proofs.ResultTypes.{one-IsMeeting, more-IsMeeting}
use Rattle.subtype_decider.proofs.results.all_outcomes.Goals as goal

pub loop-arrow-init : goal.loop-arrow-init
loop-arrow-init c =
    one-IsMeeting c.args.defs.now c.requires.few c.args.first c.arrow_of.result.result.now c.in_ok-outcomes.outcomes c.arrow_of.ensures.result c.arrow_of.ensures.result_defined c.in_ok-outcomes.ensures

pub loop-arrow-preserved : goal.loop-arrow-preserved
loop-arrow-preserved c =
    more-IsMeeting c.args.defs.now c.requires.few c.args.first c.loop-arrow.arrow-index c.args.others.now c.loop-arrow.outcomes c.arrow_of-in-loop-arrow.result.result.now c.in_ok-outcomes-2.outcomes (omega arith) c.loop-arrow.invariant c.arrow_of-in-loop-arrow.ensures.result c.arrow_of-in-loop-arrow.ensures.result_defined (c.in_ok-outcomes-2.ensures c.args.defs.now)

pub returns : goal.returns
returns c = subst (λ xs. IsMeeting c.args.defs.now (c.args.first ∷ xs) c.loop-arrow.outcomes) (take_all c.loop-arrow.arrow-index c.args.others.now (omega arith)) c.loop-arrow.invariant
