use Rattle.code_needs.specs.Needs.{Names}
use Rattle.code_verifier.specs.Asked.{Answers}
use Rattle.code_verifier.specs.LedTo.{SomePasses}
use Rattle.pair_questions.specs.Pairs.{AsksName, pairs_of}
use Rattle.need_questions.proofs.NeedsAnswered.{widened-limit, widened-ok}
use Rattle.need_questions.proofs.asking.ask_names.Goals as goal

pub returns-clause-answers : goal.returns-clause-answers
returns-clause-answers g c =
    widened-ok (Answers (g.T.Types.atoms c.args.types.now) (Names (pairs_of c.args.pairs.now) c.args.name.now)) c.has_name.result c.widen.result c.widen.ensures c.has_name.ensures.answers

pub returns-clause-limit : goal.returns-clause-limit
returns-clause-limit g c =
    widened-limit (SomePasses g.T.Types.passes (g.T.Types.atoms c.args.types.now) (AsksName c.args.pairs.now c.args.name.now)) c.has_name.result c.widen.result c.widen.ensures c.has_name.ensures.limit
