use Rattle.std.proofs.Common.{◌∙◌, ap}
use Rattle.needs_of_commands.specs.inner.Doing.{stack_of}
use Rattle.needs_of_commands.proofs.Parts.{stack-is}
use Rattle.needs_of_commands.proofs.stacks.stack_at.Goals as goal

pub returns : goal.returns
returns c = c.types_of.ensures ∙ ap stack_of c.map_at.ensures ∙ stack-is c.args.code.now.maps c.args.place
