use Rattle.subtype_decider.proofs.Dropped.{told-KeepsShape}
use Rattle.subtype_decider.proofs.table.Table.has_shape.Goals as goal

pub returns-in-Some : goal.returns-in-Some
returns-in-Some c = told-KeepsShape c.args.self.now c.args.question c.in-Some.shape c.is_some.result c.requires c.is_some.ensures c.in-Some.ensures
