use Rattle.std.proofs.Common.{OnOk, Some, length, subst, sym}
use Rattle.checks.specs.Checks.{Comes}
use Rattle.flow_narrowing.specs.Flows.{AreSame, IfShared}
use Rattle.type_model.specs.Defined.{TyBelow}
use Rattle.check_words.specs.Actions.{receives_as}
use Rattle.check_words.specs.Stands.{Stands}
use Rattle.check_work.specs.Views.{state_of}
use Rattle.check_work.proofs.Noting.{made-comes, made-on}
use Rattle.needs_of_actions.proofs.Asked.{on-any}
use Rattle.needs_of_actions.proofs.Received.{received-as, received-none}
use Rattle.needs_of_actions.proofs.receiving.receive_if.Goals as goal

pub returns-in-Some-clause-stands : goal.returns-in-Some-clause-stands
returns-in-Some-clause-stands c = λ env below h.
    subst (λ r. OnOk r (Stands (state_of env c.receive_as.new.work))) (sym c.lift.ensures) (made-on _ c.receive_as.result (c.receive_as.ensures.stands env (subst (IfShared (TyBelow (length env))) c.in-Some.is below) h))

pub returns-in-Some-clause-comes : goal.returns-in-Some-clause-comes
returns-in-Some-clause-comes c = λ env w same.
    let s = state_of env c.args.work.now in
    let new = state_of env c.receive_as.new.work in
    received-as s new c.lift.result c.args.peer.now c.args.at w c.in-Some.t (subst (AreSame w) c.in-Some.is same)
    (λ u eq. subst (λ r. Comes (receives_as (Some u) c.args.peer.now c.args.at) s r new) (sym c.lift.ensures) (made-comes (receives_as (Some u) c.args.peer.now c.args.at) s new c.receive_as.result (c.receive_as.ensures.comes env u eq)))

pub returns-in-None-clause-stands : goal.returns-in-None-clause-stands
returns-in-None-clause-stands c = λ env below h. on-any _ c.refusal.result h

pub returns-in-None-clause-comes : goal.returns-in-None-clause-comes
returns-in-None-clause-comes c = λ env w same. let s = state_of env c.args.work.now in
    received-none s s c.refusal.result c.args.peer.now c.args.at w (subst (AreSame w) c.in-None.is same) (c.refusal.ensures c.args.peer.now s)
