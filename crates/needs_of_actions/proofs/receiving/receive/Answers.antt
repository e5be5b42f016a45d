use Rattle.std.proofs.Common.{◌∙◌, sym}
use Rattle.check_work.specs.Views.{state_of}
use Rattle.needs_of_actions.proofs.Asked.{on-any}
use Rattle.needs_of_actions.proofs.Received.{received-stated, received-unstated}
use Rattle.needs_of_actions.proofs.receiving.receive.Goals as goal

pub returns-then-is_stated-clause-comes : goal.returns-then-is_stated-clause-comes
returns-then-is_stated-clause-comes c = λ env.
    received-stated (state_of env c.args.work.now) (state_of env c.receive_wanted.new.work) c.receive_wanted.result c.args.peer.now c.args.at c.args.expected
    (sym c.is_stated.ensures ∙ c.if-is_stated.true) (c.receive_wanted.ensures.comes env)

pub returns-clause-stands : goal.returns-clause-stands
returns-clause-stands c = λ env h. on-any _ c.refusal.result h

pub returns-clause-comes : goal.returns-clause-comes
returns-clause-comes c = λ env. let s = state_of env c.args.work.now in
    received-unstated s s c.refusal.result c.args.peer.now c.args.at c.args.expected (sym c.is_stated.ensures ∙ c.if-is_stated.false) (c.refusal.ensures c.args.peer.now s)
