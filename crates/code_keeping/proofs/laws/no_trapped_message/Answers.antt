use Rattle.code_keeping.proofs.Trapped.{no-trapped-receive, no-trapped-send}
use Rattle.code_keeping.proofs.laws.no_trapped_message.Goals as goal

pub returns-clause-receives : goal.returns-clause-receives
returns-clause-receives c = no-trapped-receive

pub returns-clause-sends : goal.returns-clause-sends
returns-clause-sends c = no-trapped-send
