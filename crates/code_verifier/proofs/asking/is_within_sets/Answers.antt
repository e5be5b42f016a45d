use Rattle.std.proofs.Common.{refl}
use Rattle.std.specs.Prelude.{length}
use Rattle.type_model.specs.Calls.{Without}
use Rattle.code_needs.specs.Needs.{IsOfKind}
use Rattle.code_verifier.specs.KindSets.{IsWritten}
use Rattle.code_verifier.specs.LedTo.{AsksBelow}
use Rattle.code_verifier.proofs.Answered.{within-told}
use Rattle.code_verifier.proofs.KindShapes.{sets-exactly, written-below}
use Rattle.code_verifier.proofs.Leading.{fault-leads}
use Rattle.code_verifier.proofs.asking.is_within_sets.Goals as goal

pub sub-requires-clause-right : goal.sub-requires-clause-right
sub-requires-clause-right g c = written-below (length (g.T.Types.atoms c.args.types.now)) c.args.sets c.in-Ok.want c.in-Ok.ensures

pub returns-in-Ok-clause-answers : goal.returns-in-Ok-clause-answers
returns-in-Ok-clause-answers g c = λ kind e.
    let env = g.T.Types.atoms c.args.types.now in
    within-told env c.args.s.now c.in-Ok.want (IsOfKind kind) (sets-exactly env kind c.args.sets c.in-Ok.want e c.in-Ok.ensures) c.sub.result c.sub.ensures.answer

pub returns-in-Ok-clause-limit : goal.returns-in-Ok-clause-limit
returns-in-Ok-clause-limit g c =
    fault-leads g.T.Types.passes (g.T.Types.atoms c.args.types.now) (AsksBelow c.args.s.now (IsWritten c.args.sets)) (Without c.args.s.now c.in-Ok.want) (c.in-Ok.want, c.in-Ok.ensures, refl) c.sub.result c.sub.ensures.limit
