use Rattle.std.proofs.Common.{◌∙◌, ap}
use Rattle.code_needs.specs.Combining.{◌&◌, need, of_some}
use Rattle.code_needs.specs.declared.kind.Kind.TheVariants.{Errors}
use Rattle.code_needs.specs.Needs.{Has, Within}
use Rattle.code_needs.specs.PlaceNeeds.{same_each}
use Rattle.code_needs.specs.Stacks.{front_of, last_of}
use Rattle.needs_of_rows.proofs.Finding.{found-as, found-then}
use Rattle.needs_of_commands.proofs.branches.landing.Goals as goal

pub returns : goal.returns
returns c =
    let last = c.last.ensures ∙ ap last_of c.stack_at-types.ensures in
    let rest = c.front.ensures ∙ ap front_of c.stack_at-types.ensures in
    found-as _ _ _ _ (λ i. of_some (last i) (λ t. need (Within t Errors) & need (Has t Errors)) & same_each (rest i) (c.stack_at-own.ensures i))
    (found-then _ _ _ _ _ c.all_errors.ensures c.same_each.ensures)
