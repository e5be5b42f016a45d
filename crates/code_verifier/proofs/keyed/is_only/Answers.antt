use Rattle.std.proofs.Common.{IfOk, subst}
use Rattle.bal_base.specs.declared.text.Text.{Text}
use Rattle.bal_base.specs.Stops.{IfFault}
use Rattle.type_model.specs.declared.basic.BasicSet.TheVariants.{StringOne}
use Rattle.type_model.specs.declared.basic.SemType.{Basic}
use Rattle.type_model.specs.Calls.{Without}
use Rattle.type_model.specs.Inclusion.{AnswersSub}
use Rattle.code_verifier.proofs.keyed.is_only.Goals as goal

pub returns-clause-answer : goal.returns-clause-answer
returns-clause-answer g c =
    subst (λ (t : Text). IfOk c.sub.result (AnswersSub (g.T.Types.atoms c.args.types.now) c.args.k.now (Basic (StringOne t)))) c.share.ensures c.sub.ensures.answer

pub returns-clause-limit : goal.returns-clause-limit
returns-clause-limit g c =
    subst (λ (t : Text). IfFault c.sub.result (g.T.Types.passes (g.T.Types.atoms c.args.types.now) (Without c.args.k.now (Basic (StringOne t))))) c.share.ensures c.sub.ensures.limit
