use Rattle.eval_model.proofs.TaskWalk.{choices-keep, evals-keep, execs-keep, turns-keep}
use Rattle.eval_model.proofs.laws.frames_keep_ways.Goals as goal

pub returns-clause-expressions : goal.returns-clause-expressions
returns-clause-expressions g c = evals-keep g.W.AnyWays.ways

pub returns-clause-statements : goal.returns-clause-statements
returns-clause-statements g c = execs-keep g.W.AnyWays.ways

pub returns-clause-choices : goal.returns-clause-choices
returns-clause-choices g c = choices-keep g.W.AnyWays.ways

pub returns-clause-turns : goal.returns-clause-turns
returns-clause-turns g c = turns-keep g.W.AnyWays.ways
