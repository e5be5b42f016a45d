use Rattle.std.proofs.Common.{◌∙◌}
use Rattle.needs_of_commands.proofs.Parts.{first-as}
use Rattle.needs_of_commands.proofs.stacks.first_types.Goals as goal

pub returns : goal.returns
returns c = c.split_at.ensures.front ∙ first-as c.args.types.now c.args.count _ c.saturating_sub-behind.ensures
