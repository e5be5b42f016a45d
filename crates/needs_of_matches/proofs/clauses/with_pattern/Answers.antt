use Rattle.needs_of_matches.proofs.ClauseSteps.{with-of}
use Rattle.needs_of_matches.proofs.clauses.with_pattern.Goals as goal

pub returns-in-Some-clause-shapes : goal.returns-in-Some-clause-shapes
returns-in-Some-clause-shapes c = with-of c.args.p.now c.in-Some.c c.args.sem c.with_constant.result c.in-Some.is c.with_constant.ensures.shapes
