use Rattle.std.proofs.Common.{◌∙◌, sym}
use Rattle.needs_of_commands.proofs.Descent.{inside, no-such}
use Rattle.needs_of_commands.proofs.chains.outside.Goals as goal

pub returns-in-Some : goal.returns-in-Some
returns-in-Some c = λ o e. inside c.in-Some.row o (sym c.in-Some.is ∙ c.row_at.ensures ∙ e)

pub returns-in-None : goal.returns-in-None
returns-in-None c = λ o e. no-such o (sym c.in-None.is ∙ c.row_at.ensures ∙ e)
