use Rattle.check_members.proofs.StoredChoices.{else-same, then-same}
use Rattle.check_members.proofs.stored.same_choices.Goals as goal

pub returns-then-same_list : goal.returns-then-same_list
returns-then-same_list c = then-same c.same_list-then-same_list.result _ _ (c.same_list.ensures.0 c.if-same_list.true) c.same_list-then-same_list.ensures

pub returns-else-same_list : goal.returns-else-same_list
returns-else-same_list c = else-same c.same_list.result _ _ c.if-same_list.false c.same_list.ensures
