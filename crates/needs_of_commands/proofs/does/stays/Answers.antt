use Rattle.code_needs.specs.RowNeeds.{below_each}
use Rattle.needs_of_commands.proofs.Parts.{stays-ended, stays-on}
use Rattle.needs_of_commands.proofs.does.stays.Goals as goal

pub returns-in-true : goal.returns-in-true
returns-in-true c = stays-ended c.args.ended (below_each c.args.rest.now c.args.stay.now) _ c.in-true.is

pub returns-in-false : goal.returns-in-false
returns-in-false c = stays-on c.args.ended (below_each c.args.rest.now c.args.stay.now) _ _ c.in-false.is c.below_each.ensures
