use Rattle.std.proofs.Common.{◌∙◌, sym}
use Rattle.needs_of_commands.proofs.Parts.{given-behind, none-behind}
use Rattle.needs_of_commands.proofs.does.result_at.Goals as goal

pub returns-in-true : goal.returns-in-true
returns-in-true c = λ o e. given-behind o _ _ _ _ c.stack_at-types.ensures (sym c.in-true.is ∙ c.gives.ensures c.args.code.now o e) c.front.ensures c.last.ensures

pub returns-in-false : goal.returns-in-false
returns-in-false c = λ o e. none-behind o _ _ c.stack_at-types.ensures (sym c.in-false.is ∙ c.gives.ensures c.args.code.now o e)
