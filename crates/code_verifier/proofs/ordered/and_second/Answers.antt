use Rattle.std.proofs.Common.{subst}
use Rattle.type_model.specs.declared.answers.Answer.{Answer}
use Rattle.type_model.specs.Inclusion.{AnswersSub}
use Rattle.code_verifier.proofs.Ordering.{first-fails, then-second}
use Rattle.code_verifier.proofs.ordered.and_second.Goals as goal

pub returns-in-Yes-clause-tells : goal.returns-in-Yes-clause-tells
returns-in-Yes-clause-tells g c = λ a told. then-second (g.T.Types.atoms c.args.types.now) a c.args.b.now c.args.t.now c.args.first c.in-Yes.is told c.sub.result c.sub.ensures.answer

pub returns-in-No-clause-tells : goal.returns-in-No-clause-tells
returns-in-No-clause-tells g c = λ a told.
    let env = g.T.Types.atoms c.args.types.now in
    first-fails env a c.args.b.now c.args.t.now c.in-No.shape (subst (λ (f : Answer). AnswersSub env a c.args.t.now f) c.in-No.is told)
