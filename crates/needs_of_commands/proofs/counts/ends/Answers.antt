use Rattle.std.proofs.Common.{◌∙◌}
use Rattle.needs_of_commands.proofs.Numbered.{ends-is}
use Rattle.needs_of_commands.proofs.counts.ends.Goals as goal

pub returns : goal.returns
returns c = λ code o e. c.is_ending.ensures ∙ ends-is code o c.args.instr.now e
