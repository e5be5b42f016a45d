use Rattle.std.proofs.Common.{◌∙◌, ap, option_copied, sym}
use Rattle.stack_code.specs.Commands.{command_in}
use Rattle.needs_of_commands.proofs.Descent.{no-such}
use Rattle.place_numbers.proofs.places.numbers_pass.Goals as goal

pub returns-in-Some : goal.returns-in-Some
returns-in-Some c = λ command e.
    c.instr_passes.ensures command (sym (ap (command_in c.args.site.code.now) (sym c.instr_at.ensures ∙ ap option_copied c.in-Some.is)) ∙ e)

pub returns-in-None : goal.returns-in-None
returns-in-None c = λ command e. no-such command (sym (ap (command_in c.args.site.code.now) (sym c.instr_at.ensures ∙ ap option_copied c.in-None.is)) ∙ e)
