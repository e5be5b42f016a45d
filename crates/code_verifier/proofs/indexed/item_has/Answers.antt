use Rattle.std.proofs.Common.{IfOk, List, inl, inr, subst}
use Rattle.bal_base.specs.Stops.{IfFault}
use Rattle.type_model.specs.declared.answers.Answer.{Answer}
use Rattle.type_model.specs.declared.answers.Keys.{Keys}
use Rattle.type_model.specs.declared.atoms.AtomDef.{AtomDef}
use Rattle.type_model.specs.Parts.{StandsAt}
use Rattle.operations.specs.Rows.{StandsAtIndex}
use Rattle.code_needs.specs.Needs.{PartHas}
use Rattle.code_verifier.specs.Asked.{Answers}
use Rattle.code_verifier.specs.LedTo.{AsksIndex, AsksOfItem, AsksOfPart, SomePasses}
use Rattle.code_verifier.proofs.Leading.{fault-on, stop-on}
use Rattle.code_verifier.proofs.PartsNamed.{has-told, of-part-leads}
use Rattle.code_verifier.proofs.indexed.item_has.Goals as goal

pub returns-in-Ok-clause-answers : goal.returns-in-Ok-clause-answers
returns-in-Ok-clause-answers g c =
    let env = g.T.Types.atoms c.args.types.now in
    has-told env c.args.l.now c.in-Ok.keys (StandsAtIndex env c.args.l.now c.args.i.now) (c.in-Ok.ensures.keys c.args.l.now) c.args.v.now c.part_has.result
    (subst (λ (e : List AtomDef). IfOk c.part_has.result (Answers e (PartHas c.args.l.now c.in-Ok.keys c.args.v.now))) c.named_indexes.ensures.atoms c.part_has.ensures.answers)

pub returns-in-Ok-clause-limit : goal.returns-in-Ok-clause-limit
returns-in-Ok-clause-limit g c =
    let env = g.T.Types.atoms c.args.types.now in
    let lead = of-part-leads env c.args.l.now c.in-Ok.keys (StandsAtIndex env c.args.l.now c.args.i.now) (c.in-Ok.ensures.keys c.args.l.now) c.args.v.now in
    fault-on g.T.Types.passes env (AsksOfPart env c.args.l.now (StandsAt env c.args.l.now c.in-Ok.keys) c.args.v.now) (AsksOfItem env c.args.l.now c.args.i.now c.args.v.now) (λ asked h. inr (lead asked h)) c.part_has.result
    (subst (λ (e : List AtomDef). IfFault c.part_has.result (SomePasses g.T.Types.passes e (AsksOfPart e c.args.l.now (StandsAt e c.args.l.now c.in-Ok.keys) c.args.v.now))) c.named_indexes.ensures.atoms c.part_has.ensures.limit)

pub returns-in-Err-clause-limit : goal.returns-in-Err-clause-limit
returns-in-Err-clause-limit g c =
    let env = g.T.Types.atoms c.args.types.now in
    stop-on g.T.Types.passes env (AsksIndex env c.args.i.now) (AsksOfItem env c.args.l.now c.args.i.now c.args.v.now) (λ asked h. inl h) Keys Answer c.in-Err.stop c.in-Err.ensures.limit
