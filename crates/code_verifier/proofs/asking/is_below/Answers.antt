use Rattle.type_model.specs.Membership.{In}
use Rattle.type_model.proofs.Same.{itself}
use Rattle.code_verifier.proofs.Answered.{within-told}
use Rattle.code_verifier.proofs.asking.is_below.Goals as goal

pub returns-clause-answers : goal.returns-clause-answers
returns-clause-answers g c =
    let env = g.T.Types.atoms c.args.types.now in
    within-told env c.args.s.now c.args.t.now (λ x. In env x c.args.t.now) (λ x v. itself) c.sub.result c.sub.ensures.answer
