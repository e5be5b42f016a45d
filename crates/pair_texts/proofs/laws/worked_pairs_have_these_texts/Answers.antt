use Rattle.pair_texts.proofs.Worked.{default-is-written, module-is-written, talk-is-written}
use Rattle.pair_texts.proofs.laws.worked_pairs_have_these_texts.Goals as goal

pub returns-clause-talk : goal.returns-clause-talk
returns-clause-talk c = talk-is-written

pub returns-clause-default_worker : goal.returns-clause-default_worker
returns-clause-default_worker c = default-is-written

pub returns-clause-other_module : goal.returns-clause-other_module
returns-clause-other_module c = module-is-written
