use Rattle.std.proofs.Common.{IfOk, subst}
use Rattle.bal_base.specs.Stops.{IfFault}
use Rattle.type_model.specs.declared.basic.BasicSet.{BasicSet}
use Rattle.type_model.specs.declared.basic.SemType.{Basic}
use Rattle.type_model.specs.Calls.{Without}
use Rattle.type_model.specs.Inclusion.{AnswersSub}
use Rattle.code_verifier.proofs.indexed.is_only_int.Goals as goal

pub returns-clause-answer : goal.returns-clause-answer
returns-clause-answer g c = subst (λ (b : BasicSet). IfOk c.sub.result (AnswersSub (g.T.Types.atoms c.args.types.now) c.args.i.now (Basic b))) c.one_int.ensures c.sub.ensures.answer

pub returns-clause-limit : goal.returns-clause-limit
returns-clause-limit g c = subst (λ (b : BasicSet). IfFault c.sub.result (g.T.Types.passes (g.T.Types.atoms c.args.types.now) (Without c.args.i.now (Basic b)))) c.one_int.ensures c.sub.ensures.limit
