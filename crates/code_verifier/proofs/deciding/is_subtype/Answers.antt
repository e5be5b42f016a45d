use Rattle.std.proofs.Common.{Bool}
use Rattle.type_model.specs.declared.answers.Answer.{Answer}
use Rattle.type_model.specs.Calls.{Without}
use Rattle.code_verifier.proofs.Leading.{stop-passed}
use Rattle.code_verifier.proofs.SubDecided.{sub-decided}
use Rattle.code_verifier.proofs.deciding.is_subtype.Goals as goal

pub returns-in-Ok-clause-answer : goal.returns-in-Ok-clause-answer
returns-in-Ok-clause-answer g c = sub-decided (g.T.Types.atoms c.args.types.now) c.args.s.now c.args.t.now c.in-Ok.answer c.is_yes.result c.is_yes.ensures c.in-Ok.ensures.answer

pub returns-in-Err-clause-limit : goal.returns-in-Err-clause-limit
returns-in-Err-clause-limit g c = stop-passed (g.T.Types.passes (g.T.Types.atoms c.args.types.now) (Without c.args.s.now c.args.t.now)) Answer Bool c.in-Err.stop c.in-Err.ensures.limit
