use Rattle.std.proofs.Common.{◌∙◌, ap, option_copied, sym}
use Rattle.needs_of_commands.proofs.Commanded.{placed, unplaced}
use Rattle.needs_of_commands.proofs.Parts.{lent-here}
use Rattle.needs_of_commands.proofs.commands.command.Goals as goal

pub instr_needs-requires-clause-lent : goal.instr_needs-requires-clause-lent
instr_needs-requires-clause-lent c = c.requires.always

pub instr_needs-requires-clause-here : goal.instr_needs-requires-clause-here
instr_needs-requires-clause-here c = lent-here c.args.site.code.now c.args.place c.args.lent c.in-Some.instr.now c.requires (sym c.instr_at.ensures ∙ ap option_copied c.in-Some.is)

pub returns-in-Some : goal.returns-in-Some
returns-in-Some c = placed c.args.site c.args.place c.in-Some.instr.now _ _ (sym c.instr_at.ensures ∙ ap option_copied c.in-Some.is) c.instr_needs.ensures

pub returns-in-None : goal.returns-in-None
returns-in-None c = unplaced c.args.site c.args.place _ _ (sym c.instr_at.ensures ∙ ap option_copied c.in-None.is) c.refuse.ensures
