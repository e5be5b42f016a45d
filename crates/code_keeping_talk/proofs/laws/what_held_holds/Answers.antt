use Rattle.code_keeping_talk.proofs.Lasting.{what-held-holds}
use Rattle.code_keeping_talk.proofs.laws.what_held_holds.Goals as goal

pub returns : goal.returns
returns c = what-held-holds
