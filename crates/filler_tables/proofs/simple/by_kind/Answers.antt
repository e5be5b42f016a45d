use Rattle.filler_tables.proofs.SimpleShapes.{first-simple, none-simple}
use Rattle.filler_tables.proofs.simple.by_kind.Goals as goal

pub returns-in-Ok-true-clause-simple : goal.returns-in-Ok-true-clause-simple
returns-in-Ok-true-clause-simple g c = λ x own is e of lacks others.
    first-simple (g.T.Types.atoms c.args.types.now) c.args.t.now x is own _ e lacks c.args.kind.now of others c.share.ensures c.in-Ok-true.field-0 c.in-Ok-true.field-0-test c.in-Ok-true.ensures.among

pub returns-in-Ok-false-clause-simple : goal.returns-in-Ok-false-clause-simple
returns-in-Ok-false-clause-simple g c = λ x own is e of lacks others.
    none-simple (g.T.Types.atoms c.args.types.now) c.args.t.now x is own e lacks c.args.kind.now of others c.in-Ok-false.field-0 c.in-Ok-false.field-0-test c.in-Ok-false.ensures.among
