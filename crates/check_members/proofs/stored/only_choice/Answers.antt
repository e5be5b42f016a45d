use Rattle.std.proofs.Common.{◌≤◌, length, subst, sym}
use Rattle.check_members.proofs.StoredChoices.{many-none}
use Rattle.check_members.proofs.stored.only_choice.Goals as goal

pub returns-in-len2-up : goal.returns-in-len2-up
returns-in-len2-up c = sym (many-none c.args.t.now.lists c.args.t.now.maps (subst (λ xs. 2 ≤ length xs) c.as_slice.ensures c.in-len2-up.len_at_least))
