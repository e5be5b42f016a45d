use Rattle.plain_strands.proofs.waits.gives_end.Goals as goal

pub returns-clause-stays : goal.returns-clause-stays
returns-clause-stays c = c.ended.ensures.stays c.args.common.now c.take_result.new.common
