use Rattle.worker_messages.proofs.Returned.{behind-so}
use Rattle.worker_messages.proofs.returns.has_message_behind.Goals as goal

pub returns : goal.returns
returns c =
    behind-so c.args.sayings.now c.first_sayings.result.now c.args.before c.count_messages-first.result c.count_messages-all.result c.first_sayings.ensures c.count_messages-first.ensures c.count_messages-all.ensures
