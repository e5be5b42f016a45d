use Rattle.std.proofs.Common.{◌↔◌, Bool, IfOk, IsTrue, subst}
use Rattle.bal_base.specs.declared.text.Text.{Text}
use Rattle.bal_base.specs.Stops.{IfFault}
use Rattle.type_model.specs.declared.basic.BasicSet.TheVariants.{StringOne}
use Rattle.type_model.specs.declared.basic.SemType.{Basic}
use Rattle.type_model.specs.Inclusion.{Sub}
use Rattle.code_verifier.specs.LedTo.{SomePasses}
use Rattle.pair_questions.specs.Pairs.{AsksSingle}
use Rattle.pair_questions.proofs.Singles.{single-told}
use Rattle.pair_questions.proofs.names.is_single.Goals as goal

pub returns-clause-single : goal.returns-clause-single
returns-clause-single g c =
    let env = g.T.Types.atoms c.args.types.now in
    single-told env c.args.t.now c.args.name.now c.are_same.result
    (subst (λ (n : Text). IfOk c.are_same.result (λ (yes : Bool). IsTrue yes ↔ (Sub env c.args.t.now (Basic (StringOne n)) × Sub env (Basic (StringOne n)) c.args.t.now))) c.share.ensures c.are_same.ensures.both)

pub returns-clause-limit : goal.returns-clause-limit
returns-clause-limit g c =
    subst (λ (n : Text). IfFault c.are_same.result (SomePasses g.T.Types.passes (g.T.Types.atoms c.args.types.now) (AsksSingle c.args.t.now n))) c.share.ensures c.are_same.ensures.limit
