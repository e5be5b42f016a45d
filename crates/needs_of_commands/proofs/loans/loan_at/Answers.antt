use Rattle.std.proofs.Common.{◌∙◌, ap, option_copied, sym}
use Rattle.needs_of_commands.proofs.Parts.{loaned, unloaned}
use Rattle.needs_of_commands.proofs.loans.loan_at.Goals as goal

pub returns-in-Some : goal.returns-in-Some
returns-in-Some c = loaned c.args.code.now c.args.place c.in-Some.instr.now c.loan_of.result (sym c.instr_at.ensures ∙ ap option_copied c.in-Some.is) c.loan_of.ensures

pub returns-in-None : goal.returns-in-None
returns-in-None c = unloaned c.args.code.now c.args.place c.no_loan.result (sym c.instr_at.ensures ∙ ap option_copied c.in-None.is)
