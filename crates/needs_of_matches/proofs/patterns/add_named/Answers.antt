use Rattle.check_work.specs.Views.{state_of}
use Rattle.needs_of_matches.proofs.PatternSteps.{named-stops, named-then}
use Rattle.needs_of_matches.proofs.patterns.add_named.Goals as goal

pub returns-in-Ok-clause-comes : goal.returns-in-Ok-clause-comes
returns-in-Ok-clause-comes c = λ env. let s = state_of env c.args.work.now in named-then c.args.names.now c.args.q.now s s _ c.in-Ok.c _ (c.in-Ok.ensures env) (c.add_constant.ensures.comes env)

pub returns-in-Err-clause-comes : goal.returns-in-Err-clause-comes
returns-in-Err-clause-comes c = λ env. let s = state_of env c.args.work.now in named-stops c.args.names.now c.args.q.now s s c.in-Err.stop (c.in-Err.ensures env)
