use Rattle.filler_tables.proofs.SimpleShapes.{alone-simple}
use Rattle.filler_tables.proofs.simple.by_value.Goals as goal

pub returns-in-Ok-true-clause-simple : goal.returns-in-Ok-true-clause-simple
returns-in-Ok-true-clause-simple g c = λ x is e lacks.
    alone-simple (g.T.Types.atoms c.args.types.now) c.args.t.now x is c.args.own.now _ e lacks c.share.ensures c.alone.result c.alone.ensures c.in-Ok-true.field-0 c.in-Ok-true.field-0-test c.in-Ok-true.ensures.answer
