use Rattle.std.proofs.Common.{subst, sym}
use Rattle.typed_tree.specs.declared.event.EventKind.TheVariants.{Post, Receive, Send}
use Rattle.worker_pairing.specs.Marks.{form_marks}
use Rattle.event_search.specs.inner.Walking.{Goes}
use Rattle.event_search.proofs.Walks.{goes-both, goes-said}
use Rattle.event_search.proofs.exprs.form.Goals as goal

pub returns-in-Send : goal.returns-in-Send
returns-in-Send c sent gets =
    subst (λ s. Goes c.args.initial (form_marks s sent gets c.args.at) c.args.search.now c.say.new.self) (sym c.in-Send.is)
    (goes-said c.args.initial (Send c.in-Send.peer) c.args.at sent _ _ c.say.ensures)

pub returns-in-SyncSend : goal.returns-in-SyncSend
returns-in-SyncSend c sent gets =
    subst (λ s. Goes c.args.initial (form_marks s sent gets c.args.at) c.args.search.now c.say-in-SyncSend-2.new.self) (sym c.in-SyncSend.is)
    (goes-both c.args.initial _ _ c.args.search.now c.say-in-SyncSend.new.self c.say-in-SyncSend-2.new.self
    (goes-said c.args.initial (Post c.in-SyncSend.peer) c.args.at sent _ _ c.say-in-SyncSend.ensures) c.say-in-SyncSend-2.ensures)

pub returns-in-Receive : goal.returns-in-Receive
returns-in-Receive c sent gets =
    subst (λ s. Goes c.args.initial (form_marks s sent gets c.args.at) c.args.search.now c.say-in-Receive.new.self) (sym c.in-Receive.is)
    (goes-said c.args.initial (Receive c.in-Receive.peer) c.args.at gets _ _ c.say-in-Receive.ensures)
