use Rattle.code_verifier.specs.Asked.{Answers}
use Rattle.code_verifier.specs.LedTo.{SomePasses}
use Rattle.code_verifier.specs.Questions.{LeadsTo, need_of}
use Rattle.need_questions.proofs.NeedsAnswered.{widened-limit, widened-ok}
use Rattle.need_questions.proofs.asking.ask_plain.Goals as goal

pub returns-clause-answers : goal.returns-clause-answers
returns-clause-answers g c = widened-ok (Answers (g.T.Types.atoms c.args.types.now) (need_of c.args.question)) c.ask.result c.widen.result c.widen.ensures c.ask.ensures.answers

pub returns-clause-limit : goal.returns-clause-limit
returns-clause-limit g c =
    let env = g.T.Types.atoms c.args.types.now in
    widened-limit (SomePasses g.T.Types.passes env (LeadsTo env c.args.known.now c.args.question)) c.ask.result c.widen.result c.widen.ensures c.ask.ensures.limit
