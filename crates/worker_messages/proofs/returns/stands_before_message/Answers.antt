use Rattle.worker_messages.proofs.Returned.{behind-held}
use Rattle.worker_messages.proofs.returns.stands_before_message.Goals as goal

pub returns : goal.returns
returns c = behind-held c.args.member.now.sayings.items c.deref.result.now c.args.before c.has_message_behind.result c.deref.ensures.value c.has_message_behind.ensures
