use Rattle.std.proofs.Common.{refl}
use Rattle.needs_of_members.proofs.updates.member_target.Goals as goal

pub returns : goal.returns
returns c = (c.args.container, c.args.key, refl, refl, refl)
