use Rattle.check_kinds.proofs.KindSets.{made-below, made-of_kind}
use Rattle.check_kinds.proofs.kinds.kind_type.Goals as goal

pub returns-clause-is : goal.returns-clause-is
returns-clause-is c = made-of_kind c.args.own.now c.args.kind c.kind_sets.result c.in_ok-sem.sem c.plain.result c.kind_sets.ensures c.in_ok-sem.ensures c.plain.ensures

pub returns-clause-defined : goal.returns-clause-defined
returns-clause-defined c = made-below c.args.own.now c.args.kind c.kind_sets.result c.in_ok-sem.sem c.plain.result c.kind_sets.ensures c.in_ok-sem.ensures c.plain.ensures
