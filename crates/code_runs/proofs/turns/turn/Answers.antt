use Rattle.code_runs.proofs.turns.turn.Goals as goal

pub returns : goal.returns
returns c = λ words input ticks come. c.pick_turn.ensures c.args.made.now.program words input ticks come
