use Rattle.code_needs.specs.RowNeeds.{below_each}
use Rattle.needs_of_rows.proofs.Finding.{found-as}
use Rattle.needs_of_commands.proofs.branches.goes_on.Goals as goal

pub returns : goal.returns
returns c = found-as _ _ _ _ (λ i. below_each (c.stack_at-own.ensures i) (c.stack_at-next.ensures i)) c.below_each.ensures
