use Rattle.code_keeping.proofs.Flushing.{flushes-keep}
use Rattle.code_keeping.proofs.Receiving.{ends-keep, messages-keep}
use Rattle.code_keeping.proofs.Sending.{sends-keep}
use Rattle.code_keeping.proofs.laws.messages_keep.Goals as goal

pub returns-clause-sends : goal.returns-clause-sends
returns-clause-sends c = sends-keep

pub returns-clause-messages : goal.returns-clause-messages
returns-clause-messages c = messages-keep

pub returns-clause-ends : goal.returns-clause-ends
returns-clause-ends c = ends-keep

pub returns-clause-flushes : goal.returns-clause-flushes
returns-clause-flushes c = flushes-keep
