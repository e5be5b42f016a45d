use Rattle.std.proofs.Common.{IfOk, List, Option, inl, inr, subst, sym}
use Rattle.bal_base.specs.Stops.{IfFault}
use Rattle.type_model.specs.declared.answers.Answer.{Answer}
use Rattle.type_model.specs.declared.answers.Keys.{Keys}
use Rattle.type_model.specs.declared.atoms.AtomDef.{AtomDef}
use Rattle.operations.specs.Rows.{StandsAtKey}
use Rattle.code_needs.specs.Needs.{MemberHas}
use Rattle.code_verifier.specs.Asked.{Answers}
use Rattle.code_verifier.specs.Keyed.{AreKeysOf}
use Rattle.code_verifier.specs.LedTo.{AsksKey, AsksOfMember, AsksOfPart, SomePasses}
use Rattle.code_verifier.proofs.Leading.{fault-on, stop-on}
use Rattle.code_verifier.proofs.keyed.member_has.Goals as goal

pub returns-in-Ok-clause-answers : goal.returns-in-Ok-clause-answers
returns-in-Ok-clause-answers g c =
    let same = c.named_keys.ensures.atoms in
    subst (λ (env : List AtomDef). IfOk c.parts_have.result (Answers env (MemberHas c.args.m.now c.args.k.now c.args.v.now))) same
    (c.parts_have.ensures.answers c.args.k.now (subst (λ (env : List AtomDef). AreKeysOf env c.args.k.now c.in-Ok.keys) (sym same) c.in-Ok.ensures.keys))

pub returns-in-Ok-clause-limit : goal.returns-in-Ok-clause-limit
returns-in-Ok-clause-limit g c =
    let same = c.named_keys.ensures.atoms in
    let at = g.T.Types.atoms c.args.types.now in
    fault-on g.T.Types.passes at (AsksOfPart at c.args.m.now (StandsAtKey at c.args.m.now c.args.k.now) c.args.v.now) (AsksOfMember at c.args.m.now c.args.k.now c.args.v.now) (λ asked h. inr h) c.parts_have.result
    (subst (λ (env : List AtomDef). IfFault c.parts_have.result (SomePasses g.T.Types.passes env (AsksOfPart env c.args.m.now (StandsAtKey env c.args.m.now c.args.k.now) c.args.v.now))) same
    (c.parts_have.ensures.limit c.args.k.now (subst (λ (env : List AtomDef). AreKeysOf env c.args.k.now c.in-Ok.keys) (sym same) c.in-Ok.ensures.keys)))

pub returns-in-Err-clause-limit : goal.returns-in-Err-clause-limit
returns-in-Err-clause-limit g c =
    let at = g.T.Types.atoms c.args.types.now in
    stop-on g.T.Types.passes at (AsksKey at c.args.k.now) (AsksOfMember at c.args.m.now c.args.k.now c.args.v.now) (λ asked h. inl h) (Option Keys) Answer c.in-Err.stop c.in-Err.ensures.limit
