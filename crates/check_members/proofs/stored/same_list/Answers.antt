use Rattle.check_members.proofs.StoredChoices.{lists-decide}
use Rattle.check_members.proofs.stored.same_list.Goals as goal

pub returns : goal.returns
returns c = lists-decide c.as_slice.result.now c.as_slice-2.result.now c.args.ys.now c.args.xs.now c.eq.result c.as_slice.ensures c.as_slice-2.ensures c.eq.ensures
