use Rattle.plain_run.proofs.variables.load_variable.Goals as goal

pub returns-in_ok-came-in-Some-None-clause-stays : goal.returns-in_ok-came-in-Some-None-clause-stays
returns-in_ok-came-in-Some-None-clause-stays c = c.lifted.ensures.stays c.args.common.now c.panics.new.world c.in_ok-came-in-Some-None.ensures.stays
