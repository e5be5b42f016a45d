use Rattle.code_needs.specs.Needs.{FitsFields}
use Rattle.code_verifier.specs.Asked.{Answers}
use Rattle.code_verifier.specs.LedTo.{SomePasses}
use Rattle.pair_questions.specs.Fitting.{AsksFit}
use Rattle.pair_questions.specs.Pairs.{pair_of}
use Rattle.need_questions.proofs.NeedsAnswered.{widened-limit, widened-ok}
use Rattle.need_questions.proofs.asking.ask_fits.Goals as goal

pub returns-clause-answers : goal.returns-clause-answers
returns-clause-answers g c =
    widened-ok (Answers (g.T.Types.atoms c.args.types.now) (FitsFields c.args.members.fields.now c.args.members.rest.now (pair_of c.args.pair))) c.fits_fields.result c.widen.result c.widen.ensures c.fits_fields.ensures.answers

pub returns-clause-limit : goal.returns-clause-limit
returns-clause-limit g c =
    let env = g.T.Types.atoms c.args.types.now in
    widened-limit (SomePasses g.T.Types.passes env (AsksFit env c.args.members c.args.pair)) c.fits_fields.result c.widen.result c.widen.ensures c.fits_fields.ensures.limit
