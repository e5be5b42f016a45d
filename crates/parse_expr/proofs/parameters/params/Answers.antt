use Rattle.parse_expr.proofs.Fronts.{params-exact, params-none}
use Rattle.parse_expr.proofs.parameters.params.Goals as goal

pub returns-clause-exact : goal.returns-clause-exact
returns-clause-exact c = params-exact c.args.tokens.now c.in_parens.result c.in_parens.ensures.end

pub returns-clause-none : goal.returns-clause-none
returns-clause-none c = params-none c.args.tokens.now c.in_parens.result c.in_parens.ensures.end
