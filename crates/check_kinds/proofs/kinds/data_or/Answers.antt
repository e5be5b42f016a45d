use Rattle.check_kinds.proofs.KindSets.{data-or}
use Rattle.check_kinds.proofs.kinds.data_or.Goals as goal

pub returns : goal.returns
returns c = data-or c.args.own.now.anydata.sem c.in_ok-data.data c.args.set c.or_set.result c.in_ok-data.ensures c.or_set.ensures
