use Rattle.std.proofs.Common.{refl}
use Rattle.operations.specs.Structures.{IsMade}
use Rattle.type_model.specs.Calls.{Without}
use Rattle.code_verifier.specs.LedTo.{AsksAbove, IsMadeType}
use Rattle.code_verifier.proofs.Answered.{left-told}
use Rattle.code_verifier.proofs.Leading.{fault-leads}
use Rattle.code_verifier.proofs.MadeShapes.{made-below, made-exactly}
use Rattle.code_verifier.proofs.made.has_made.Goals as goal

pub sub-requires-clause-left : goal.sub-requires-clause-left
sub-requires-clause-left g c = made-below (g.T.Types.atoms c.args.types.now) c.args.atom c.requires.atom c.args.immutable c.in-Ok.want c.in-Ok.ensures

pub returns-in-Ok-clause-answers : goal.returns-in-Ok-clause-answers
returns-in-Ok-clause-answers g c =
    let env = g.T.Types.atoms c.args.types.now in
    left-told env c.in-Ok.want c.args.t.now (IsMade env c.args.atom c.args.immutable) (made-exactly env c.args.atom c.args.immutable c.in-Ok.want c.in-Ok.ensures) c.sub.result c.sub.ensures.answer

pub returns-in-Ok-clause-limit : goal.returns-in-Ok-clause-limit
returns-in-Ok-clause-limit g c =
    fault-leads g.T.Types.passes (g.T.Types.atoms c.args.types.now) (AsksAbove c.args.t.now (IsMadeType c.args.atom c.args.immutable)) (Without c.in-Ok.want c.args.t.now)
    (c.in-Ok.want, c.in-Ok.ensures, refl) c.sub.result c.sub.ensures.limit
