use Rattle.plain_run.proofs.frames.perform_load.Goals as goal

pub returns-in_ok-came-in-empty-clause-stays : goal.returns-in_ok-came-in-empty-clause-stays
returns-in_ok-came-in-empty-clause-stays c = c.lifted.ensures.stays c.args.common.now c.panics.new.world c.in_ok-came-in-empty.ensures.stays
