use Rattle.std.proofs.Common.{◌∙◌}
use Rattle.needs_of_commands.proofs.Parts.{last-is}
use Rattle.needs_of_commands.proofs.stacks.last.Goals as goal

pub returns : goal.returns
returns c = c.last.ensures.value ∙ last-is c.args.types.now
