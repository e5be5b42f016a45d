use Rattle.code_keeping_talk.proofs.Following.{later-follows}
use Rattle.code_keeping_talk.proofs.laws.later_follows.Goals as goal

pub returns : goal.returns
returns c = later-follows
