use Rattle.code_needs.specs.Combining.{at_most}
use Rattle.code_needs.specs.RowNeeds.{items_fit}
use Rattle.needs_of_rows.proofs.Finding.{found-then}
use Rattle.needs_of_rows.proofs.structures.items_in.Goals as goal

pub returns : goal.returns
returns c =
    found-then (at_most c.args.fixed.now c.args.count) (items_fit c.args.items.now 0 c.args.fixed.now c.args.rest.now) _ _ _ c.at_most.ensures c.items_fit.ensures
