use Rattle.std.proofs.Common.{Option, subst}
use Rattle.type_model.specs.declared.answers.Keys.{Keys}
use Rattle.type_model.specs.Calls.{Without}
use Rattle.type_model.specs.declared.basic.BasicSet.TheVariants.{Never}
use Rattle.type_model.specs.declared.basic.SemType.{Basic}
use Rattle.type_model.specs.Parts.{StandsAt}
use Rattle.operations.specs.Rows.{StandsAtKey}
use Rattle.code_verifier.specs.Keyed.{AreKeysOf}
use Rattle.code_verifier.specs.LedTo.{AsksOfPart}
use Rattle.code_verifier.proofs.KeyNames.{never-leads, none-has-told}
use Rattle.code_verifier.proofs.Leading.{fault-leads, fault-on}
use Rattle.code_verifier.proofs.PartsNamed.{has-told, of-part-leads}
use Rattle.code_verifier.proofs.keyed.parts_have.Goals as goal

pub returns-in-Some-clause-answers : goal.returns-in-Some-clause-answers
returns-in-Some-clause-answers g c = λ k are.
    let env = g.T.Types.atoms c.args.types.now in
    has-told env c.args.m.now c.in-Some.keys (StandsAtKey env c.args.m.now k) (subst (λ (o : Option Keys). AreKeysOf env k o) c.in-Some.is are c.args.m.now) c.args.v.now c.part_has.result c.part_has.ensures.answers

pub returns-in-Some-clause-limit : goal.returns-in-Some-clause-limit
returns-in-Some-clause-limit g c = λ k are.
    let env = g.T.Types.atoms c.args.types.now in
    fault-on g.T.Types.passes env (AsksOfPart env c.args.m.now (StandsAt env c.args.m.now c.in-Some.keys) c.args.v.now) (AsksOfPart env c.args.m.now (StandsAtKey env c.args.m.now k) c.args.v.now)
    (of-part-leads env c.args.m.now c.in-Some.keys (StandsAtKey env c.args.m.now k) (subst (λ (o : Option Keys). AreKeysOf env k o) c.in-Some.is are c.args.m.now) c.args.v.now) c.part_has.result c.part_has.ensures.limit

pub returns-in-None-clause-answers : goal.returns-in-None-clause-answers
returns-in-None-clause-answers g c = λ k are.
    let env = g.T.Types.atoms c.args.types.now in
    none-has-told env k c.args.m.now c.args.v.now (subst (λ (o : Option Keys). AreKeysOf env k o) c.in-None.is are) c.sub.result c.sub.ensures.answer

pub returns-in-None-clause-limit : goal.returns-in-None-clause-limit
returns-in-None-clause-limit g c = λ k are.
    let env = g.T.Types.atoms c.args.types.now in
    fault-leads g.T.Types.passes env (AsksOfPart env c.args.m.now (StandsAtKey env c.args.m.now k) c.args.v.now) (Without c.args.v.now (Basic Never))
    (never-leads env k c.args.m.now c.args.v.now (subst (λ (o : Option Keys). AreKeysOf env k o) c.in-None.is are)) c.sub.result c.sub.ensures.limit
