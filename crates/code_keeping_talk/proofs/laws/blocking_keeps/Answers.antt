use Rattle.code_keeping_talk.proofs.Blocking.{blocking-keeps}
use Rattle.code_keeping_talk.proofs.laws.blocking_keeps.Goals as goal

pub returns : goal.returns
returns c = blocking-keeps
