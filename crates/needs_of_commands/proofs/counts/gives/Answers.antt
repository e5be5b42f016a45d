use Rattle.std.proofs.Common.{◌∙◌}
use Rattle.needs_of_commands.proofs.Numbered.{gives-is}
use Rattle.needs_of_commands.proofs.counts.gives.Goals as goal

pub returns : goal.returns
returns c = λ code o e. c.is_giving.ensures ∙ gives-is code o c.args.instr.now e
