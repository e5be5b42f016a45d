use Rattle.code_runs.proofs.Turning.{over-on}
use Rattle.code_runs.proofs.turns.pick_turn.Goals as goal

pub returns-in-None : goal.returns-in-None
returns-in-None c = λ p words input ticks come. over-on p words input ticks c.args.seed c.args.run.now c.requires c.in-None.ensures come

pub returns-in-Some : goal.returns-in-Some
returns-in-Some c = λ p words input ticks come. c.pick_by.ensures p words input ticks c.args.seed c.requires c.in-Some.ensures come
