use Rattle.std.proofs.Common.{◌∙◌, ap, sym}
use Rattle.check_words.specs.Seen.{variable_behind}
use Rattle.needs_of_values.proofs.testing.variable_named.Goals as goal

pub returns-in-None : goal.returns-in-None
returns-in-None c = c.find_variable.ensures ∙ ap (λ p. variable_behind c.args.variables.now c.args.name.now p) (sym c.in-None.is)

pub returns-in-Some : goal.returns-in-Some
returns-in-Some c = ap (λ p. variable_behind c.args.variables.now c.args.name.now p) (sym c.in-Some.is)
