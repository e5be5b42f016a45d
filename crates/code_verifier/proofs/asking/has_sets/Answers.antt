use Rattle.std.proofs.Common.{refl}
use Rattle.std.specs.Prelude.{length}
use Rattle.type_model.specs.Calls.{Without}
use Rattle.code_needs.specs.Needs.{IsOfKind}
use Rattle.code_verifier.specs.KindSets.{IsWritten}
use Rattle.code_verifier.specs.LedTo.{AsksAbove}
use Rattle.code_verifier.proofs.Answered.{left-told}
use Rattle.code_verifier.proofs.KindShapes.{sets-exactly, written-below}
use Rattle.code_verifier.proofs.Leading.{fault-leads}
use Rattle.code_verifier.proofs.asking.has_sets.Goals as goal

pub sub-requires-clause-left : goal.sub-requires-clause-left
sub-requires-clause-left g c = written-below (length (g.T.Types.atoms c.args.types.now)) c.args.sets c.in-Ok.want c.in-Ok.ensures

pub returns-in-Ok-clause-answers : goal.returns-in-Ok-clause-answers
returns-in-Ok-clause-answers g c = λ kind e.
    let env = g.T.Types.atoms c.args.types.now in
    left-told env c.in-Ok.want c.args.t.now (IsOfKind kind) (sets-exactly env kind c.args.sets c.in-Ok.want e c.in-Ok.ensures) c.sub.result c.sub.ensures.answer

pub returns-in-Ok-clause-limit : goal.returns-in-Ok-clause-limit
returns-in-Ok-clause-limit g c =
    fault-leads g.T.Types.passes (g.T.Types.atoms c.args.types.now) (AsksAbove c.args.t.now (IsWritten c.args.sets)) (Without c.in-Ok.want c.args.t.now) (c.in-Ok.want, c.in-Ok.ensures, refl) c.sub.result c.sub.ensures.limit
