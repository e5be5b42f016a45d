use Rattle.check_members.proofs.TakenMembers.{having-is}
use Rattle.check_members.proofs.taken.having.Goals as goal

pub returns : goal.returns
returns c = having-is c.args.name.now c.in_ok-ty.ty c.in_ok-rest.rest c.in_ok-ty.ensures c.in_ok-rest.ensures c.with_field.result c.with_field.ensures
