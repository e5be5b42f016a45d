use Rattle.expr_needs.specs.Needs.{Conjoins}
use Rattle.check_work.specs.Views.{going}
use Rattle.check_work.proofs.Noting.{on-both}
use Rattle.needs_of_values.proofs.truths.conjoins.Goals as goal

pub conjoin-made-requires-clause-own : goal.conjoin-made-requires-clause-own
conjoin-made-requires-clause-own g c = (c.requires (c.has_stopped.ensures.goes_on c.if-has_stopped.false)).0.own

pub conjoin-made-requires-clause-stands : goal.conjoin-made-requires-clause-stands
conjoin-made-requires-clause-stands g c = (c.requires (c.has_stopped.ensures.goes_on c.if-has_stopped.false)).1

pub returns-clause-holds : goal.returns-clause-holds
returns-clause-holds g c =
    let env = g.T.Types.atoms c.args.checker.now.types in
    let before = c.requires (c.has_stopped.ensures.goes_on c.if-has_stopped.false) in
    c.note_made.ensures.holds env c.args.checker.now.names.now c.conjoin-made.ensures.atoms (on-both _ _ c.conjoin-made.result before.0 c.conjoin-made.ensures.stands)

pub returns-clause-met : goal.returns-clause-met
returns-clause-met g c =
    let env = g.T.Types.atoms c.args.checker.now.types in
    c.note_made.ensures.runs env c.args.checker.now.names.now (Conjoins c.args.at) (going env c.args.checker.now.work) c.conjoin-made.ensures.atoms (c.has_stopped.ensures.goes_on c.if-has_stopped.false)
    c.conjoin-made.ensures.comes
