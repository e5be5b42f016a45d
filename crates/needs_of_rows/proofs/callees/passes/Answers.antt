use Rattle.std.specs.Option.{option_copied}
use Rattle.code_needs.specs.RowNeeds.{below_each, has_all}
use Rattle.needs_of_rows.proofs.Finding.{found-then}
use Rattle.needs_of_rows.proofs.callees.passes.Goals as goal

pub returns : goal.returns
returns c =
    found-then (below_each c.args.operands.now c.args.types.now) (has_all (option_copied c.args.given) c.args.own.now) _ _ _ c.below_each.ensures c.has_all.ensures
