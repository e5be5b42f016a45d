use Rattle.std.proofs.Common.{refl}
use Rattle.type_model.specs.Calls.{Without}
use Rattle.type_model.specs.Membership.{In}
use Rattle.type_model.specs.SameType.{IsSameType}
use Rattle.code_verifier.specs.KindSets.{IsBoth}
use Rattle.code_verifier.specs.LedTo.{AsksAbove}
use Rattle.code_verifier.proofs.Answered.{left-told}
use Rattle.code_verifier.proofs.Leading.{fault-leads}
use Rattle.code_verifier.proofs.MadeShapes.{both-defined, both-exactly}
use Rattle.code_verifier.proofs.combined.has_both.Goals as goal

pub sub-requires-clause-left : goal.sub-requires-clause-left
sub-requires-clause-left g c = both-defined (g.T.Types.atoms c.args.types.now) c.args.s.now c.args.t.now c.requires.left c.requires.right c.in-Ok.want c.in-Ok.ensures

pub returns-in-Ok-clause-answers : goal.returns-in-Ok-clause-answers
returns-in-Ok-clause-answers g c =
    let env = g.T.Types.atoms c.args.types.now in
    left-told env c.in-Ok.want c.args.r.now (λ x. In env x c.args.s.now × In env x c.args.t.now) (both-exactly env c.args.s.now c.args.t.now c.in-Ok.want c.in-Ok.ensures) c.sub.result c.sub.ensures.answer

pub returns-in-Ok-clause-limit : goal.returns-in-Ok-clause-limit
returns-in-Ok-clause-limit g c =
    fault-leads g.T.Types.passes (g.T.Types.atoms c.args.types.now) (AsksAbove c.args.r.now (IsBoth (IsSameType c.args.s.now) (IsSameType c.args.t.now))) (Without c.in-Ok.want c.args.r.now)
    (c.in-Ok.want, c.in-Ok.ensures, refl) c.sub.result c.sub.ensures.limit
