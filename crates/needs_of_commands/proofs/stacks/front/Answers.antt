use Rattle.std.proofs.Common.{◌∙◌}
use Rattle.needs_of_commands.proofs.Parts.{front-is}
use Rattle.needs_of_commands.proofs.stacks.front.Goals as goal

pub returns : goal.returns
returns c = c.split_behind.ensures.rest ∙ front-is c.args.types.now
