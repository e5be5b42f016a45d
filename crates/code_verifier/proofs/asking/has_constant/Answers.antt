use Rattle.std.proofs.Common.{◌≡◌, subst, sym}
use Rattle.bal_base.specs.Stops.{IfFault}
use Rattle.operations.specs.Rows.{shape_of}
use Rattle.type_model.specs.declared.basic.BasicSet.{BasicSet}
use Rattle.type_model.specs.declared.basic.SemType.{Basic}
use Rattle.type_model.specs.Calls.{Without}
use Rattle.type_model.specs.Inclusion.{HasExactly}
use Rattle.code_verifier.proofs.Answered.{left-told}
use Rattle.code_verifier.proofs.KindShapes.{constant-exactly}
use Rattle.code_verifier.proofs.asking.has_constant.Goals as goal

pub returns-clause-answers : goal.returns-clause-answers
returns-clause-answers g c =
    let env = g.T.Types.atoms c.args.types.now in
    left-told env (Basic c.constant_set.result) c.args.t.now (λ x. x ≡ shape_of c.args.value.now)
    (subst (λ (b : BasicSet). HasExactly env (Basic b) (λ x. x ≡ shape_of c.args.value.now)) (sym c.constant_set.ensures) (constant-exactly env c.args.value.now)) c.sub.result c.sub.ensures.answer

pub returns-clause-limit : goal.returns-clause-limit
returns-clause-limit g c =
    subst (λ (b : BasicSet). IfFault c.sub.result (g.T.Types.passes (g.T.Types.atoms c.args.types.now) (Without (Basic b) c.args.t.now))) c.constant_set.ensures c.sub.ensures.limit
