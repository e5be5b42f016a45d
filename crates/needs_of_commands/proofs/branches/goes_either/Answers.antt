use Rattle.std.proofs.Common.{◌∙◌, ap}
use Rattle.code_needs.specs.Combining.{◌&◌, of_some}
use Rattle.code_needs.specs.declared.kind.Kind.TheVariants.{Booleans}
use Rattle.code_needs.specs.RowNeeds.{below_each, within}
use Rattle.code_needs.specs.Stacks.{front_of, last_of}
use Rattle.needs_of_rows.proofs.Finding.{found-as, found-three}
use Rattle.needs_of_commands.proofs.branches.goes_either.Goals as goal

pub returns : goal.returns
returns c =
    let last = c.last.ensures ∙ ap last_of c.stack_at-types.ensures in
    let rest = c.front-rest.ensures ∙ ap front_of c.stack_at-types.ensures in
    found-as _ _ _ _ (λ i. of_some (last i) (λ t. within t Booleans) & (below_each (rest i) (c.stack_at-next.ensures i) & below_each (rest i) (c.stack_at-other.ensures i)))
    (found-three _ _ _ _ _ _ _ c.condition.ensures c.below_each.ensures c.below_each-2.ensures)
