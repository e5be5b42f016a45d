use Rattle.parse_expr.proofs.Fronts.{name-longest, name-none}
use Rattle.parse_expr.proofs.names.name.Goals as goal

pub returns-clause-longest : goal.returns-clause-longest
returns-clause-longest c = name-longest c.args.middle c.args.tokens.now c.words.result c.words.ensures.end

pub returns-clause-none : goal.returns-clause-none
returns-clause-none c = name-none c.args.middle c.args.tokens.now c.words.result c.words.ensures.end
