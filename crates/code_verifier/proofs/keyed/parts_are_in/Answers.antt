use Rattle.std.proofs.Common.{Option, subst}
use Rattle.type_model.specs.declared.answers.Keys.{Keys}
use Rattle.type_model.specs.Parts.{StandsAt}
use Rattle.operations.specs.Rows.{StandsAtKey}
use Rattle.code_verifier.specs.Keyed.{AreKeysOf}
use Rattle.code_verifier.specs.LedTo.{AsksPart}
use Rattle.code_verifier.proofs.Leading.{fault-on}
use Rattle.code_verifier.proofs.PartsNamed.{in-told, part-leads}
use Rattle.code_verifier.proofs.keyed.parts_are_in.Goals as goal

pub returns-in-Some-clause-answers : goal.returns-in-Some-clause-answers
returns-in-Some-clause-answers g c = λ k are.
    let env = g.T.Types.atoms c.args.types.now in
    in-told env c.args.m.now c.in-Some.keys (StandsAtKey env c.args.m.now k) (subst (λ (o : Option Keys). AreKeysOf env k o) c.in-Some.is are c.args.m.now) c.args.t.now c.part_is_in.result c.part_is_in.ensures.answers

pub returns-in-Some-clause-limit : goal.returns-in-Some-clause-limit
returns-in-Some-clause-limit g c = λ k are.
    let env = g.T.Types.atoms c.args.types.now in
    fault-on g.T.Types.passes env (AsksPart env c.args.m.now (StandsAt env c.args.m.now c.in-Some.keys) c.args.t.now) (AsksPart env c.args.m.now (StandsAtKey env c.args.m.now k) c.args.t.now)
    (part-leads env c.args.m.now c.in-Some.keys (StandsAtKey env c.args.m.now k) (subst (λ (o : Option Keys). AreKeysOf env k o) c.in-Some.is are c.args.m.now) c.args.t.now) c.part_is_in.result c.part_is_in.ensures.limit

pub returns-in-None-clause-answers : goal.returns-in-None-clause-answers
returns-in-None-clause-answers g c = λ k are x v s.
    let none = subst (λ (o : Option Keys). AreKeysOf (g.T.Types.atoms c.args.types.now) k o) c.in-None.is are in absurd (none c.args.m.now x s)
