use Rattle.std.proofs.Common.{◌∙◌}
use Rattle.place_numbers.proofs.Carried.{change-is}
use Rattle.place_numbers.proofs.changes.change_behind.Goals as goal

pub returns : goal.returns
returns c = λ code o e. c.change_of.ensures ∙ change-is code o c.args.instr.now e
