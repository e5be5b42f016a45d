use Rattle.isolation_check.proofs.Judges.{variable-changes, variable-final}
use Rattle.isolation_check.proofs.judging.is_steady.Goals as goal

pub returns-then-not-variable-clause-judged : goal.returns-then-not-variable-clause-judged
returns-then-not-variable-clause-judged g c = λ names. variable-changes g.T.Types.passes names c.args.at (g.T.Types.atoms c.args.types.now) c.args.variable.now c.if-not-variable.true

pub returns-clause-judged : goal.returns-clause-judged
returns-clause-judged g c = λ names. variable-final g.T.Types.passes names c.args.at (g.T.Types.atoms c.args.types.now) c.args.variable.now _ c.if-not-variable.false (c.is_readonly.ensures.judged names)
